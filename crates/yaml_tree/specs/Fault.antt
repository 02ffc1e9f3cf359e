use Rattle.std.specs.Prelude.{ℕ, List, codes}
use Rattle.yaml_tree.specs.declared.fault.FaultKind.{FaultKind}
use Rattle.yaml_tree.specs.declared.fault.FaultKind.TheVariants.{NotUtf8, Syntax, Unsupported, Duplicate, Alias, TooDeep, TooManyNodes}

-- the words for messages
abbrev pub word_of : FaultKind → List ℕ
word_of NotUtf8 = codes "not UTF-8"
word_of Syntax = codes "syntax"
word_of Unsupported = codes "unsupported"
word_of Duplicate = codes "duplicate key"
word_of Alias = codes "unknown alias"
word_of TooDeep = codes "too deep"
word_of TooManyNodes = codes "too many nodes"
