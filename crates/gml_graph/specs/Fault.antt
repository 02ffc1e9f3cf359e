use Rattle.std.specs.Prelude.{ℕ, List, codes}
use Rattle.gml_graph.specs.declared.fault.GmlKind.{GmlKind}
use Rattle.gml_graph.specs.declared.fault.GmlKind.TheVariants.{NotUtf8, Syntax, Missing, Duplicate, UnknownNode, ZeroLatency, Loss, BadValue, TooMany}

-- the words for messages
abbrev pub word_of : GmlKind → List ℕ
word_of NotUtf8 = codes "not UTF-8"
word_of Syntax = codes "syntax"
word_of Missing = codes "missing"
word_of Duplicate = codes "duplicate"
word_of UnknownNode = codes "unknown node"
word_of ZeroLatency = codes "zero latency"
word_of Loss = codes "loss out of range"
word_of BadValue = codes "bad value"
word_of TooMany = codes "too many"
