-- a timer's life counts its expiries
use Rattle.std.proofs.Common.{◌≡◌, ℕ, ◌+◌, min, List, [], ◌∷◌, Some, refl, sym, ap, subst, ◌∙◌, arith}
use Rattle.host_fds.specs.Rises.{most}
use Rattle.host_timers.specs.Timer as timer
use Rattle.host_timers.specs.Timer.{TimerState, off}
use Rattle.host_files.specs.declared.timer.KeptTimer.{KeptTimer}
use Rattle.host_files.specs.Files.{expiries, new_timer}
use Rattle.host_files.specs.Slots.{at}
use Rattle.file_laws.specs.Counted.{TimerIsCounted}
use Rattle.file_laws.specs.Kinds.{timers}
use Rattle.file_laws.specs.Lives.{SlotAct, Life, slots_of, life_of, left_by}
use Rattle.file_laws.specs.Timers.{TimerAct, Sets, Rings, Counts, expiry_count}
use Rattle.file_laws.proofs.Lives.{lives}

-- a sum that is cut stays cut
cut_twice : (a b c m : ℕ) → min (min (a + b) m + c) m ≡ min (a + (b + c)) m
cut_twice a b c m = omega arith

cut_none : (n m : ℕ) → min (0 + n) m ≡ min n m
cut_none n m = omega arith

left_counts : (acts : List TimerAct) (t u : KeptTimer) (now : ℕ) → left_by timers acts (Some t) ≡ Some u → expiries now u ≡ min (t.earlier + expiry_count acts t.timer now) most
left_counts [] t u now e =
    let same : t ≡ u = cc in
    subst (λ (v : KeptTimer). expiries now v ≡ min (t.earlier + timer.expired t.timer now) most) same refl
left_counts (Sets at first interval serial ∷ acts) t u now e =
    left_counts acts (record t { timer = timer.set at first interval; serial = serial; earlier = expiries at t }) u now e
    ∙ cut_twice t.earlier (timer.expired t.timer at) (expiry_count acts (timer.set at first interval) now) most
left_counts (Rings serial ∷ acts) t u now e = left_counts acts (record t { serial = serial }) u now e
left_counts (Counts at ∷ acts) t u now e =
    left_counts acts (record t { timer = timer.read t.timer at }) u now e
    ∙ ap (λ (n : ℕ). min (t.earlier + n) most) (count_read acts t.timer at now)
  where
    count_read : (acts : List TimerAct) (setting : TimerState) (at now : ℕ) → expiry_count acts (timer.read setting at) now ≡ expiry_count acts setting now
    count_read [] setting at now = refl
    count_read (Sets then_ first interval serial ∷ acts) setting at now = refl
    count_read (Rings serial ∷ acts) setting at now = count_read acts setting at now
    count_read (Counts then_ ∷ acts) setting at now = count_read acts setting at now

left_clock : (acts : List TimerAct) (t u : KeptTimer) → left_by timers acts (Some t) ≡ Some u → u.clock ≡ t.clock
left_clock [] t u e =
    let same : t ≡ u = cc in ap (λ (v : KeptTimer). v.clock) (sym same)
left_clock (Sets at first interval serial ∷ acts) t u e =
    left_clock acts (record t { timer = timer.set at first interval; serial = serial; earlier = expiries at t }) u e
left_clock (Rings serial ∷ acts) t u e = left_clock acts (record t { serial = serial }) u e
left_clock (Counts at ∷ acts) t u e = left_clock acts (record t { timer = timer.read t.timer at }) u e

pub timer_counted : (history : List (SlotAct ℕ TimerAct)) (k : ℕ) (t : KeptTimer) → at k (slots_of timers history) ≡ Some t → (life : Life ℕ TimerAct) × ((life_of timers k history ≡ Some life) × TimerIsCounted life t)
timer_counted history k t there =
    let l = lives timers history k t there in (
      l.lived,
      (
        l.is,
        record {
          clock = left_clock l.lived.acts (new_timer l.lived.made) t l.left;
          expiries = λ now. left_counts l.lived.acts (new_timer l.lived.made) t now l.left ∙ cut_none (expiry_count l.lived.acts off now) most;
        },
      ),
    )
