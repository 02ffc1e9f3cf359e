-- the bytes of what is given to the program
use Rattle.std.specs.Prelude.{◌≡◌, ℕ, List, Some}
use Rattle.run_outside.specs.Files.{Held}
use Rattle.run_fits.specs.Bytes.{AreBytes}
use Rattle.shadow_top.specs.Input.{Input}

-- each file that is there is of bytes, which are numbers below 256
abbrev pub HoldBytes : Held → Type 0
HoldBytes held = (name bytes : List ℕ) → held name ≡ Some bytes → AreBytes bytes

abbrev pub HasBytes : Input → Type 0
HasBytes i = HoldBytes i.held
