-- What the words of `waves` hold once they are read.
use Rattle.std.specs.Prelude.{Option, String, option_map, string_bytes}
use Rattle.std.specs.declared.alloc.Global.{Global}
use Rattle.clap.specs.Walk.{Text}
use Rattle.wp_waves_words.specs.Words.{WavesNames}
use Rattle.wp_waves_words.specs.declared.words.WavesWords.{WavesWords}

-- the text of a word that may be absent
abbrev pub text_if_given : Option (String Global) → Option Text
text_if_given = option_map string_bytes

-- the names and the numbers that the words of `waves` hold
abbrev pub waves_names : WavesWords → WavesNames
waves_names words = record {
  layout = string_bytes words.layout;
  stock = string_bytes words.stock;
  orders = string_bytes words.orders;
  wave = words.wave;
  capacity = words.capacity;
  units = words.units;
  open_file = text_if_given words.open_file;
  journal = text_if_given words.journal;
  most = words.most;
  desk = words.desk;
  effort = words.effort;
}
