use Rattle.std.specs.Prelude.{ℕ, List, codes}
use Rattle.shd_config.specs.declared.fault.ConfigKind.{ConfigKind}
use Rattle.shd_config.specs.declared.fault.ConfigKind.TheVariants.{Missing, UnknownKey, WrongType, OutOfRange, BadValue, Unsupported}

-- the words for messages
abbrev pub word_of : ConfigKind → List ℕ
word_of Missing = codes "missing"
word_of UnknownKey = codes "unknown key"
word_of WrongType = codes "wrong type"
word_of OutOfRange = codes "out of range"
word_of BadValue = codes "bad value"
word_of Unsupported = codes "unsupported"
