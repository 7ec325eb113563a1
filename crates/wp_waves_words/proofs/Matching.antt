-- Clap states what the command of `waves` matches.
use Rattle.std.proofs.Common.{◌≡◌, refl, true}
use Rattle.clap.specs.Words.{is_simple_and_free}
use Rattle.clap.proofs.OnLiterals.{clap_on_literals}
use Rattle.wp_waves_words.specs.Options.{waves_command}

-- clap states what the command of `waves` matches, and when it fails
pub waves_is_simple : is_simple_and_free waves_command ≡ true
unfolding waves_command clap_on_literals
waves_is_simple = refl
