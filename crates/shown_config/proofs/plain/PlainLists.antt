-- What the arguments, the environment and the final state are that are read from a good tree.
use Rattle.std.proofs.Common.{◌≡◌, ℕ, ◌≤◌, Bool, true, false, if◌then◌else◌, List, [], map, length, Option, Some, None, IfSome, IfOk, IsUtf8, is_some, codes, bytes_eq, refl, sym, subst}
use Rattle.std.specs.List.{AllByRecursion}
use Rattle.sim_base.proofs.RefusalLemmas.{then_has, then_all, weaker}
use Rattle.shd_config.proofs.Walks.{below_has, optional_has}
use Rattle.shd_values.specs.Words.{words_of}
use Rattle.yaml_tree.specs.Said.{Said}
use Rattle.yaml_merge.specs.Plain.{items_in, pairs_in}
use Rattle.yaml_merge.specs.declared.plain.Pair.{Pair}
use Rattle.host_rows.specs.declared.row.FinalState.TheVariants.{Running}
use Rattle.shd_config.specs.declared.config.Variable.{Variable}
use Rattle.shd_config.specs.declared.key.Key.{Key}
use Rattle.shd_config.specs.declared.key.Key.TheVariants as keys
use Rattle.shd_config.specs.declared.state.StateDraft.{StateDraft}
use Rattle.shd_config.specs.Steps.{needed, through, optional, item}
use Rattle.shd_config.specs.Keys.{key_of}
use Rattle.shd_config.specs.Values.{mapping_at, text_at, number_at, signal_at}
use Rattle.shd_config.specs.Process.{argument_row, arguments_in, arguments_at, variable_row, environment_at, new_state, state_alone, state_key, state_row, ended_state, state_of, running_state, state_in, state_at}
use Rattle.shown_config.specs.Plain.{AreApart, IsPlainVariable, IsPlainState}
use Rattle.shown_config.proofs.plain.Has.{through_keeps, IsPushed, ArePushed, through_pushes, read_each, read_names}
use Rattle.shown_config.proofs.plain.GoodTrees.{IsGood, IsGoodPair, AreGoodPairs, other_bytes, items_good, pairs_good}
use Rattle.shown_config.proofs.plain.PlainValues.{mapping_has, text_has, scalar_has, scalar_utf8_has, number_has}
use Rattle.shown_config.proofs.plain.SplitWords.{words_has}

-- ---- the arguments

argument_pushed : (key : List ℕ) (before : List (List ℕ)) (value : Said) → IsGood value → IfOk (argument_row key before value) (IsPushed (λ _. IsUtf8) value before)
argument_pushed key before value g = then_has IsUtf8 (IsPushed (λ _. IsUtf8) value before) (text_at (item key (length before) value)) _ (text_has (item key (length before) value) g) (λ text u. record { last = text; read = u; is = refl })

arguments_in_has : (p : Pair) (o : Option (List Said)) → IfSome o (AllByRecursion IsGood) → IsGood p.value → IfOk (arguments_in p o) (AllByRecursion IsUtf8)
arguments_in_has p (Some items) h g =
    weaker (ArePushed (λ _. IsUtf8) items []) (AllByRecursion IsUtf8) (through (argument_row p.key) [] items)
    (through_pushes (λ _. IsUtf8) IsGood (argument_row p.key) (λ before value k. argument_pushed p.key before value k) [] items h)
    (λ all k. subst (AllByRecursion IsUtf8) (sym k.are) (read_each (λ (_ : Said). IsUtf8) IsUtf8 (λ a b u. u) items k.more k.read))
arguments_in_has p None h g = scalar_utf8_has (AllByRecursion IsUtf8) words_of words_has p g

pub arguments_has : (p : Pair) → IsGood p.value → IfOk (arguments_at p) (AllByRecursion IsUtf8)
unfolding arguments_at
arguments_has p g = arguments_in_has p (items_in p.value) (items_good p.value g) g

-- ---- the environment

abbrev ReadVariable : Pair → Variable → Type 0
ReadVariable p v = (v.name ≡ p.key) × IsPlainVariable v

variable_pushed : (before : List Variable) (p : Pair) → IsGoodPair p → IfOk (variable_row before p) (IsPushed ReadVariable p before)
variable_pushed before p g =
    then_has IsUtf8 (IsPushed ReadVariable p before) (text_at p) _ (text_has p g.value)
    (λ text u. record { last = record { name = p.key; value = text }; read = (refl, record { name = g.key; value = u; other = other_bytes p.key (codes "<<") g.other }); is = refl })

pub record IsEnvironment (vs : List Variable) : Type 0 where
  pub each : AllByRecursion IsPlainVariable vs
  pub apart : AreApart (map (λ v. v.name) vs)

pub no_environment : IsEnvironment []
no_environment = record { each = tt; apart = tt }

pub environment_has : (p : Pair) → IsGood p.value → IfOk (environment_at p) IsEnvironment
unfolding environment_at
environment_has p h =
    then_has (AreGoodPairs p.value) IsEnvironment (mapping_at p) _ (mapping_has p h)
    (λ pairs k. below_has IsEnvironment p (through variable_row [] pairs)
    (weaker (ArePushed ReadVariable pairs []) IsEnvironment (through variable_row [] pairs) (through_pushes ReadVariable IsGoodPair variable_row variable_pushed [] pairs k.each)
    (λ all more. subst IsEnvironment (sym more.are) (record {
      each = read_each ReadVariable IsPlainVariable (λ a b r. r.1) pairs more.more more.read;
      apart = subst AreApart (sym (read_names ReadVariable (λ a. a.key) (λ b. b.name) (λ a b r. r.0) pairs more.more more.read)) k.apart;
    }))))

-- ---- the final state

abbrev IsStateDraft : StateDraft → Type 0
IsStateDraft d = IfSome d.exited (λ n. n ≤ 255)

state_key_has : (key : Option Key) (d : StateDraft) (p : Pair) → IsStateDraft d → IfOk (state_key key d p) IsStateDraft
state_key_has (Some keys.Exited) d p h =
    then_all IsStateDraft (state_alone (is_some d.signaled) p) _
    (λ _. then_has (λ v. IfSome v (λ n. n ≤ 255)) IsStateDraft (optional p (number_at 0 255 p)) _
    (optional_has (λ n. n ≤ 255) p (number_at 0 255 p) (weaker (λ n. (0 ≤ n) × (n ≤ 255)) (λ n. n ≤ 255) (number_at 0 255 p) (number_has 0 255 p) (λ n k. k.1)))
    (λ v k. k))
state_key_has (Some keys.Signaled) d p h = then_all IsStateDraft (state_alone (is_some d.exited) p) _ (λ _. then_all IsStateDraft (optional p (signal_at p)) _ (λ v. h))
state_key_has _ d p h = tt

ended_has : (line : ℕ) (exited : Option ℕ) (signaled : Option _) → IfSome exited (λ n. n ≤ 255) → IfOk (ended_state line exited signaled) IsPlainState
ended_has line (Some status) signaled h = h
ended_has line None signaled h = then_all IsPlainState (needed (codes "exited") line signaled) _ (λ signal. tt)

state_of_has : (line : ℕ) (pairs : List Pair) → AllByRecursion IsGoodPair pairs → IfOk (state_of line pairs) IsPlainState
unfolding state_of
state_of_has line pairs h =
    then_has IsStateDraft IsPlainState (through state_row new_state pairs) _
    (through_keeps IsStateDraft IsGoodPair state_row (λ d p k g. state_key_has (key_of p.key) d p k) new_state pairs tt h)
    (λ d k. ended_has _ d.exited d.signaled k)

running_has : (text : List ℕ) → IfSome (running_state text) IsPlainState
running_has text = by (bytes_eq text (codes "running"))
  where
    by : (t : Bool) → IfSome (if t then Some Running else None) IsPlainState
    by true = tt
    by false = tt

state_in_has : (p : Pair) (o : Option (List Pair)) → IfSome o (AllByRecursion IsGoodPair) → IfOk (state_in p o) IsPlainState
state_in_has p (Some pairs) h = below_has IsPlainState p (state_of p.line pairs) (state_of_has p.line pairs h)
state_in_has p None h = scalar_has IsPlainState running_state running_has p

each_pair : (tree : Said) (o : Option (List Pair)) → IfSome o (AreGoodPairs tree) → IfSome o (AllByRecursion IsGoodPair)
each_pair tree None h = tt
each_pair tree (Some pairs) h = h.each

pub state_has : (p : Pair) → IsGood p.value → IfOk (state_at p) IsPlainState
unfolding state_at
state_has p g = state_in_has p (pairs_in p.value) (each_pair p.value (pairs_in p.value) (pairs_good p.value g))
