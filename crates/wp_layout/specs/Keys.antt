-- The keys of a layout file, and what its faults are told as.
use Rattle.std.specs.Prelude.{◌++◌, List, [], ◌∷◌, ℕ, codes}
use Rattle.wp_layout.specs.declared.fault.LayoutFault.{LayoutFault}
use Rattle.wp_layout.specs.declared.fault.LayoutFault.TheVariants as fault
use Rattle.wp_layout.specs.declared.key.Key.{Key}
use Rattle.wp_layout.specs.declared.key.Key.TheVariants as key

-- a key as it stands in the file
abbrev pub key_text : Key → List ℕ
key_text key.Version = codes "version"
key_text key.Aisles = codes "aisles"
key_text key.Slots = codes "slots"
key_text key.Pitch = codes "pitch"
key_text key.Clearance = codes "clearance"
key_text key.Spacing = codes "spacing"
key_text key.Spacings = codes "spacings"
key_text key.Depot = codes "depot"
key_text key.End = codes "end"

-- the keys of version 1, in the order in which they are tested
abbrev pub first_keys : List Key
first_keys = key.Version ∷ key.Aisles ∷ key.Slots ∷ key.Pitch ∷ key.Clearance ∷ key.Spacing ∷ key.Depot ∷ []

-- those of version 2
abbrev pub second_keys : List Key
second_keys = key.Version ∷ key.Aisles ∷ key.Slots ∷ key.Pitch ∷ key.Clearance ∷ key.Spacings ∷ key.Depot ∷ key.End ∷ []

-- what a fault is told as
abbrev pub fault_text : LayoutFault → List ℕ
fault_text fault.NotJson = codes "not-json"
fault_text fault.NotObject = codes "not-object"
fault_text (fault.MissingKey key) = codes "missing-key " ++ key_text key
fault_text fault.UnknownKey = codes "unknown-key"
fault_text (fault.NotWhole key) = codes "not-whole " ++ key_text key
fault_text (fault.OutOfRange key) = codes "out-of-range " ++ key_text key
fault_text fault.NotEnd = codes "not-end"
fault_text fault.Memory = codes "memory"
