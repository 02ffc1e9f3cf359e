-- The function `turn` gives the turn that the relation `IsTurn` describes, and no other turn is so.
use Rattle.std.proofs.Common.{◌≡◌, ℕ, zero, suc, ◌-◌, ◌<◌, ◌≤◌, inl, inr, ap, subst, refl, ◌∙◌, sym, Some, None, arith}
use Rattle.std.proofs.lemmas.Bool.{cases_lt}
use Rattle.sim_base.specs.declared.signal.Signal.{Signal}
use Rattle.rv32_machine.specs.Table.{State, insn}
use Rattle.rv32_machine.proofs.TableLaws.{insn_trap}
use Rattle.rv32_machine.specs.Turn.{Turn, turn, turn_from, one_more, end_of, state_after, outcome_of, GoesOn, IsTurn}
use Rattle.rv32_machine.specs.declared.outcome.Outcome.{Outcome}
use Rattle.rv32_machine.specs.declared.outcome.Outcome.TheVariants as outcome
use Rattle.rv32_machine.specs.declared.outcome.TurnEnd.{TurnEnd}
use Rattle.rv32_machine.specs.declared.outcome.TurnEnd.TheVariants as end

-- the first of n + 1 instructions may be taken apart
state_after_suc : (n : ℕ) (s : State) → state_after (suc n) s ≡ state_after n (insn s).state
unfolding state_after
state_after_suc zero s = refl
state_after_suc (suc n) s = ap (λ (t : State). (insn t).state) (state_after_suc n s)

outcome_of_suc : (k : ℕ) (s : State) → 1 ≤ k → outcome_of (suc k) s ≡ outcome_of k (insn s).state
unfolding outcome_of
outcome_of_suc k s one =
    let before : suc k - 1 ≡ suc (k - 1) = omega arith in
    ap (λ (n : ℕ). (insn (state_after n s)).outcome) before ∙ ap (λ (t : State). (insn t).outcome) (state_after_suc (k - 1) s)

outcome_of_one : (s : State) → outcome_of 1 s ≡ (insn s).outcome
unfolding outcome_of state_after
outcome_of_one s = refl

goes_on_more : (n : ℕ) (s : State) → (insn s).outcome ≡ outcome.Next → GoesOn n (insn s).state → GoesOn (suc n) s
goes_on_more n s first rest zero one within = absurd (omega arith)
goes_on_more n s first rest (suc zero) one within = outcome_of_one s ∙ first
goes_on_more n s first rest (suc (suc j)) one within = outcome_of_suc (suc j) s (omega arith) ∙ rest (suc j) (omega arith) (omega arith)

-- a turn with one more instruction in front, which neither calls nor traps
one_more_is : (n : ℕ) (s : State) (t : Turn) → (insn s).outcome ≡ outcome.Next → IsTurn n (insn s).state t → IsTurn (suc n) s (one_more t)
one_more_is n s t first rest = record {
  state = rest.state ∙ sym (state_after_suc t.ran s);
  end = elim rest.end [
    | inl (within, ended) ↦ inl (
      omega arith,
      record {
        counted = omega arith;
        before = more (goes_on_more (t.ran - 1) s first ended.before) ended.counted;
        ends = ap end_of (outcome_of_suc t.ran s ended.counted) ∙ ended.ends;
      },
    )
    | inr (all, on, spent) ↦ inr (ap suc all, goes_on_more n s first on, spent)
  ];
}
  where
    more : GoesOn (suc (t.ran - 1)) s → 1 ≤ t.ran → GoesOn (suc t.ran - 1) s
    more on counted j one within = on j one (omega arith)

-- a turn whose first instruction ends it
one_only_is : (n : ℕ) (s : State) (o : Outcome) (e : TurnEnd) → (insn s).outcome ≡ o → end_of o ≡ Some e →
    IsTurn (suc n) s (record { state = (insn s).state; end = e; ran = 1 })
unfolding state_after
one_only_is n s o e is ends = record {
  state = refl;
  end = inl (
    omega arith,
    record {
      counted = omega arith;
      before = λ j one within. absurd (omega arith);
      ends = ap end_of (outcome_of_one s ∙ is) ∙ ends;
    },
  );
}

turn_from_is : (n : ℕ) (s : State) (o : Outcome) (rest : Turn) → (insn s).outcome ≡ o → IsTurn n (insn s).state rest →
    IsTurn (suc n) s (turn_from (insn s).state o rest)
turn_from_is n s outcome.Next rest is rests = one_more_is n s rest is rests
turn_from_is n s outcome.Call rest is rests = one_only_is n s outcome.Call end.Call is refl
turn_from_is n s (outcome.Trap g) rest is rests = one_only_is n s (outcome.Trap g) (end.Trap g) is refl

-- the function gives a turn as the relation describes it
pub turn_is : (budget : ℕ) (s : State) → IsTurn budget s (turn budget s)
unfolding turn state_after
turn_is zero s = record { state = refl; end = inr (refl, (λ j one within. absurd (omega arith)), refl) }
turn_is (suc n) s = turn_from_is n s (insn s).outcome (turn n (insn s).state) refl (turn_is n (insn s).state)

-- an instruction that goes on ends no turn
not_ended : (o : Outcome) (e : TurnEnd) → o ≡ outcome.Next → end_of o ≡ Some e → ⊥
not_ended o e next ends = let none : end_of o ≡ None = ap end_of next in cc

same_length : (budget : ℕ) (s : State) (t u : Turn) → IsTurn budget s t → IsTurn budget s u → t.ran ≤ u.ran → t.ran ≡ u.ran
same_length budget s t u it iu le =
    elim it.end [
      | inl (within, ended) ↦ elim iu.end [
        | inl (within', ended') ↦ by_contradiction (λ less. not_ended _ _ (ended'.before t.ran ended.counted (omega arith)) ended.ends)
        | inr (all', on', spent') ↦ absurd (not_ended _ _ (on' t.ran ended.counted within) ended.ends)
      ]
      | inr (all, on, spent) ↦ elim iu.end [
        | inl (within', ended') ↦ omega arith
        | inr (all', on', spent') ↦ omega arith
      ]
    ]
  where
    by_contradiction : (t.ran < u.ran → ⊥) → t.ran ≡ u.ran
    by_contradiction never = omega arith

from_parts : (t u : Turn) → t.state ≡ u.state → t.end ≡ u.end → t.ran ≡ u.ran → t ≡ u
from_parts t u states ends rans =
    ap (λ (x : State). record t { state = x }) states ∙ ap (λ (x : TurnEnd). record u { end = x; ran = t.ran }) ends ∙ ap (λ (x : ℕ). record u { ran = x }) rans

same_end : (budget : ℕ) (s : State) (t u : Turn) → IsTurn budget s t → IsTurn budget s u → t.ran ≡ u.ran → t.end ≡ u.end
same_end budget s t u it iu same =
    elim it.end [
      | inl (within, ended) ↦ elim iu.end [
        | inl (within', ended') ↦ let both : Some t.end ≡ Some u.end = sym ended.ends ∙ ap (λ (k : ℕ). end_of (outcome_of k s)) same ∙ ended'.ends in cc
        | inr (all', on', spent') ↦ absurd (not_ended _ _ (on' t.ran ended.counted within) ended.ends)
      ]
      | inr (all, on, spent) ↦ elim iu.end [
        | inl (within', ended') ↦ absurd (not_ended _ _ (on u.ran ended'.counted within') ended'.ends)
        | inr (all', on', spent') ↦ spent ∙ sym spent'
      ]
    ]

-- a budget and a state have one turn
pub turn_only : (budget : ℕ) (s : State) (t : Turn) → IsTurn budget s t → t ≡ turn budget s
turn_only budget s t it = elim (cases_lt t.ran (turn budget s).ran) [
  | inl below ↦ same (same_length budget s t (turn budget s) it (turn_is budget s) (omega arith))
  | inr above ↦ same (sym (same_length budget s (turn budget s) t (turn_is budget s) it above))
]
  where
    same : t.ran ≡ (turn budget s).ran → t ≡ turn budget s
    same ran = from_parts t (turn budget s) (it.state ∙ ap (λ (n : ℕ). state_after n s) ran ∙ sym (turn_is budget s).state) (same_end budget s t (turn budget s) it (turn_is budget s) ran) ran

-- a turn as the relation describes it, from the turn that the function gives
pub turn_as : (budget : ℕ) (s : State) (t : Turn) (n : ℕ) → turn budget s ≡ t → t.ran ≡ n → IsTurn budget s (record t { ran = n })
turn_as budget s t n is ran = let P : Turn → Type 0 = λ u. IsTurn budget s u in subst P (is ∙ ap (λ (r : ℕ). record t { ran = r }) ran) (turn_is budget s)

-- a budget that the turn's call is the last instruction of suffices
pub call_in_time : (n : ℕ) (s : State) → 1 ≤ n → GoesOn (n - 1) s → outcome_of n s ≡ outcome.Call →
    turn n s ≡ record { state = state_after n s; end = end.Call; ran = n }
call_in_time n s counted before call =
    sym (turn_only n s (record { state = state_after n s; end = end.Call; ran = n })
    (record { state = refl; end = inl (omega arith, record { counted = counted; before = before; ends = ap end_of call }) }))

-- a budget in which no instruction calls or traps is spent
pub spent_without : (n : ℕ) (s : State) → GoesOn n s → turn n s ≡ record { state = state_after n s; end = end.Spent; ran = n }
spent_without n s on =
    sym (turn_only n s (record { state = state_after n s; end = end.Spent; ran = n }) (record { state = refl; end = inr (refl, on, refl) }))

trap_of : (o : Outcome) (g : Signal) → end_of o ≡ Some (end.Trap g) → o ≡ outcome.Trap g
trap_of outcome.Next g is = cc
trap_of outcome.Call g is = cc
trap_of (outcome.Trap h) g is = cc

last_traps : (n : ℕ) (s : State) (g : Signal) → 1 ≤ n → outcome_of n s ≡ outcome.Trap g → state_after n s ≡ state_after (n - 1) s
unfolding state_after outcome_of
last_traps n s g counted is =
    let one : n ≡ suc (n - 1) = omega arith in
    ap (λ (k : ℕ). state_after k s) one ∙ insn_trap (state_after (n - 1) s) g is

-- a turn that a trap ends leaves the state as it was before the instruction that trapped
pub turn_trap : (budget : ℕ) (s : State) (g : Signal) → (turn budget s).end ≡ end.Trap g →
    (turn budget s).state ≡ state_after ((turn budget s).ran - 1) s
turn_trap budget s g trap = elim (turn_is budget s).end [
  | inl (within, ended) ↦
      (turn_is budget s).state ∙ last_traps (turn budget s).ran s g ended.counted (trap_of _ g (ended.ends ∙ ap Some trap))
  | inr (all, on, spent) ↦ let both : end.Spent ≡ end.Trap g = sym spent ∙ trap in cc
]
