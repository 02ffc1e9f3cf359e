-- What clap finds: the command is one of which its definition over words speaks.
use Rattle.std.proofs.Common.{◌≡◌, ◌∙◌, true, false, List, [], ◌∷◌, Result, Ok, Err, refl, sym, ap, ap₂, subst, arith, inl, inr}
use Rattle.std.specs.Prelude.{if◌then◌else◌}
use Rattle.clap.specs.Faults.{fault_of, is_simple_and_free}
use Rattle.clap.specs.Kinds.{HasKind, Kinds}
use Rattle.clap.specs.Built.{AddsArg}
use Rattle.clap.specs.Simple.{App, app_of, is_simple, matches_of, with_rule}
use Rattle.clap.specs.Values.{kind_of}
use Rattle.clap.specs.Walk.{Row, Rule, Text, is_empty, rule_of}
use Rattle.clap.specs.declared.builder.arg.Arg.{Arg}
use Rattle.clap.specs.declared.builder.command.Command.{Command}
use Rattle.clap.specs.declared.error.Error.{Error}
use Rattle.clap.specs.declared.error.kind.ErrorKind.TheVariants.{OutOfMemory}
use Rattle.command_line.specs.Command.{shadow_command, found}
use Rattle.command_line.specs.declared.fault.WordsFault.{WordsFault}
use Rattle.command_line.specs.declared.fault.WordsFault.TheVariants.{Usage}

pub command_is_free : is_simple_and_free shadow_command ≡ true
unfolding shadow_command
command_is_free = refl

pub command_is_simple : is_simple shadow_command ≡ true
unfolding shadow_command
command_is_simple = refl

-- a command with one more argument
pub one_more : (old new : Command) (a : Arg) (app : App) (rule : Rule) → AddsArg old a new → a.global ≡ false → app_of old ≡ app → rule_of a ≡ rule
    → app_of new ≡ with_rule app rule
one_more old new a app rule adds local is rule_is = adds.shape local ∙ ap₂ with_rule is rule_is

abbrev by_kinds : Kinds → List Row → Result (List Row) WordsFault
by_kinds kinds rows = if is_empty kinds then Ok rows else Err Usage

abbrev as_ok : List Row → Result (List Row) WordsFault
as_ok rows = Ok rows

-- words that clap takes
pub taken : (app : App) (words : List Text) (rows : List Row) → app ≡ shadow_command → fault_of app words ≡ [] → rows ≡ matches_of app words → found words ≡ Ok rows
unfolding found
taken app words rows is none same =
    let none_here : fault_of shadow_command words ≡ [] = subst (λ (x : App). fault_of x words ≡ []) is none in
    let same_here : rows ≡ matches_of shadow_command words = subst (λ (x : App). rows ≡ matches_of x words) is same in
    ap (λ (kinds : Kinds). by_kinds kinds (matches_of shadow_command words)) none_here ∙ ap as_ok (sym same_here)

some_kind : (kinds : Kinds) (rows : List Row) (e : Error) → HasKind kinds e → (kind_of e ≡ OutOfMemory → ⊥)
    → by_kinds kinds rows ≡ Err Usage
some_kind [] rows e (inl memory) other = absurd (other memory)
some_kind [] rows e (inr none) other = absurd none
some_kind (kind ∷ kinds) rows e has other = let some : is_empty (kind ∷ kinds) ≡ false = grind arith in rw some refl

-- words that clap refuses for another cause than memory
pub refused : (app : App) (words : List Text) (e : Error) → app ≡ shadow_command → HasKind (fault_of app words) e → (kind_of e ≡ OutOfMemory → ⊥) → found words ≡ Err Usage
unfolding found
refused app words e is has other =
    some_kind (fault_of shadow_command words) (matches_of shadow_command words) e (subst (λ (x : App). HasKind (fault_of x words) e) is has) other
