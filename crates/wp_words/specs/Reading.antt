-- What the reader of words answers.
use Rattle.std.specs.Prelude.{◌≡◌, Bool, true, false, List, ◌++◌, map, codes, String, string_bytes, Result, Err}
use Rattle.std.specs.Fmt.{decimal}
use Rattle.std.specs.declared.alloc.Global.{Global}
use Rattle.clap.specs.Walk.{Text}
use Rattle.wp_words.specs.Words.{AuditNames, CheckNames, JobNames, MakeNumbers, PlanNames, audit, check, make, plan}
use Rattle.wp_words.specs.declared.fault.WordsFault.{WordsFault}
use Rattle.wp_words.specs.declared.fault.WordsFault.TheVariants as fault
use Rattle.wp_words.specs.declared.job.AuditWords.{AuditWords}
use Rattle.wp_words.specs.declared.job.CheckWords.{CheckWords}
use Rattle.wp_words.specs.declared.job.Job.{Job}
use Rattle.wp_words.specs.declared.job.Job.TheVariants as job
use Rattle.wp_words.specs.declared.job.MakeWords.{MakeWords}
use Rattle.wp_words.specs.declared.job.PlanWords.{PlanWords}

-- the texts of words
abbrev pub texts_of : List (String Global) → List Text
texts_of = map string_bytes

-- the names and the numbers that the words of `plan` hold
abbrev pub plan_names : PlanWords → PlanNames
plan_names words = record {
  layout = string_bytes words.layout;
  stock = string_bytes words.stock;
  orders = string_bytes words.orders;
  desks = string_bytes words.desks;
  capacity = words.capacity;
  units = words.units;
  budget = words.budget;
  nodes = words.nodes;
  workers = words.workers;
  rules = words.rules;
  pickers = words.pickers;
  root = words.root;
  store = words.store;
}

-- the names that the words of `check` hold
abbrev pub check_names : CheckWords → CheckNames
check_names words = record { layout = string_bytes words.layout; certificate = string_bytes words.certificate }

-- the names and the number that the words of `audit` hold
abbrev pub audit_names : AuditWords → AuditNames
audit_names words = record {
  layout = string_bytes words.layout;
  stock = string_bytes words.stock;
  orders = string_bytes words.orders;
  journal = string_bytes words.journal;
  units = words.units;
}

-- the numbers that the words of `make` hold
abbrev pub make_numbers : MakeWords → MakeNumbers
make_numbers words = record {
  number = words.number;
  aisles = words.aisles;
  orders = words.orders;
  desks = words.desks;
  wave = words.wave;
  capacity = words.capacity;
  budget = words.budget;
  nodes = words.nodes;
  workers = words.workers;
}

-- the names and the numbers that a job holds
abbrev pub job_names : Job → JobNames
job_names (job.Plan words) = plan (plan_names words)
job_names (job.Check words) = check (check_names words)
job_names (job.Audit words) = audit (audit_names words)
job_names (job.Make words) = make (make_numbers words)

-- there was no memory
abbrev pub wants_memory : WordsFault → Bool
wants_memory fault.NoMode = false
wants_memory fault.UnknownMode = false
wants_memory fault.BadWords = false
wants_memory (fault.TooManyWaves waves) = false
wants_memory fault.Memory = true

-- a fault is the one that the words say; but memory may have run out
abbrev pub IsFaultOf : {A : Type 0} → Result A WordsFault → WordsFault → Type 0
IsFaultOf said why = wants_memory why ≡ false → said ≡ Err why

-- what a fault is told as
abbrev pub fault_text : WordsFault → Text
fault_text fault.NoMode = codes "no-mode"
fault_text fault.UnknownMode = codes "unknown-mode"
fault_text fault.BadWords = codes "bad-words"
fault_text (fault.TooManyWaves waves) = codes "too-many-waves " ++ decimal waves
fault_text fault.Memory = codes "memory"
