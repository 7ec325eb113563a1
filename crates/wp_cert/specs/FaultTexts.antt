-- What the faults of certificates are told as.
use Rattle.std.specs.Prelude.{◌++◌, ℕ, Bool, true, false, List, codes, if◌then◌else◌}
use Rattle.std.specs.List.{flat_map}
use Rattle.wp_model.specs.Journal.{after_space, number_after_space}
use Rattle.wp_cert.specs.declared.tree.CertFault.{CertFault}
use Rattle.wp_cert.specs.declared.tree.CertWhy.{CertWhy}
use Rattle.wp_cert.specs.declared.tree.CertWhy.TheVariants as why

-- why a certificate is refused
abbrev pub cert_why_text : CertWhy → List ℕ
cert_why_text why.NotJson = codes "not-json"
cert_why_text why.BadShape = codes "bad-shape"
cert_why_text why.OutOfRange = codes "out-of-range"
cert_why_text why.BadCuts = codes "bad-cuts"
cert_why_text why.Cut = codes "cut"
cert_why_text why.SplitKept = codes "split-kept"
cert_why_text why.DualsLength = codes "duals-length"
cert_why_text why.DecidedPrices = codes "decided-prices"
cert_why_text why.SumLow = codes "sum-low"
cert_why_text (why.NotFeasible batch) = codes "not-feasible" ++ flat_map number_after_space batch
cert_why_text why.BadMarks = codes "bad-marks"
cert_why_text (why.NotTight order) = codes "not-tight" ++ number_after_space order
cert_why_text why.BadPair = codes "bad-pair"
cert_why_text (why.NotDead order) = codes "not-dead" ++ number_after_space order
cert_why_text why.Memory = codes "memory"

-- whether a certificate is refused at a node of its tree
abbrev pub is_at_node : CertWhy → Bool
is_at_node why.NotJson = false
is_at_node why.BadShape = false
is_at_node why.OutOfRange = false
is_at_node why.BadCuts = true
is_at_node why.Cut = true
is_at_node why.SplitKept = true
is_at_node why.DualsLength = true
is_at_node why.DecidedPrices = true
is_at_node why.SumLow = true
is_at_node (why.NotFeasible batch) = true
is_at_node why.BadMarks = true
is_at_node (why.NotTight order) = true
is_at_node why.BadPair = true
is_at_node (why.NotDead order) = true
is_at_node why.Memory = false

-- a fault: where it is at a node, the node's number comes first
abbrev pub cert_fault_text : CertFault → List ℕ
cert_fault_text fault =
    if is_at_node fault.why then codes "node" ++ number_after_space fault.node ++ after_space (cert_why_text fault.why)
    else cert_why_text fault.why
