use Rattle.std.specs.Prelude.{ℕ, List, codes}
use Rattle.run_plan.specs.declared.fault.HostFault.{HostFault}
use Rattle.run_plan.specs.declared.fault.HostFault.TheVariants.{UnknownNode, NoBandwidth, DuplicateAddress}

-- the words for messages
abbrev pub word_of : HostFault → List ℕ
word_of UnknownNode = codes "unknown node"
word_of NoBandwidth = codes "no bandwidth"
word_of DuplicateAddress = codes "duplicate address"
