-- What a wait for an epoll sees of its entries, and what it tells by that.
use Rattle.std.proofs.Common.{◌≡◌, ℕ, zero, suc, ◌+◌, ◌-◌, ◌<◌, ◌≤◌, Bool, true, false, ◌&&◌, ◌||◌, nat_lt, if◌then◌else◌, List, [], ◌∷◌, ◌++◌, length, take, map, get_or, replicate, flat_map, slice_set, Option, None, Some, Result, Ok, Err, refl, sym, subst, ap, ap₂, ◌∙◌, arith, append_assoc, append-nil, take_all}
use Rattle.std.specs.List.{list_any}
use Rattle.std.proofs.Math.Bool.{and-false, or-false, or-true}
use Rattle.std.proofs.lemmas.Grind.{replicate_next}
use Rattle.std.proofs.lemmas.List.{take_more, map_more}
use Rattle.std.proofs.lemmas.Option.{none-some, same_Some}
use Rattle.std.proofs.lemmas.List.Folds.{list_any-append}
use Rattle.sim_base.specs.declared.time.Time.{Time}
use Rattle.sim_base.specs.Refusals.{◌>>=◌}
use Rattle.guest_args.specs.Span.{filled}
use Rattle.host_fds.specs.declared.epoll.Entry.{Entry}
use Rattle.host_fds.specs.declared.epoll.Seen.{Seen}
use Rattle.host_fds.specs.declared.epoll.Watch.{Watch}
use Rattle.host_fds.specs.Epoll.{told, reported, is_told, is_due, entry_of, report_of}
use Rattle.host_files.specs.Epolls.{epoll_at, told_by}
use Rattle.host_wants.specs.declared.error.CallError.{CallError}
use Rattle.host_wants.specs.declared.error.Refusal.{Refusal}
use Rattle.host_sockets.specs.declared.sockets.Sockets.{Sockets}
use Rattle.host_sockets.specs.Sockets.{SocketsRecord}
use Rattle.host_sockets.specs.StandsFor.{Stand}
use Rattle.call_parts.specs.declared.call.WaitingCall.{WaitingCall}
use Rattle.call_parts.specs.declared.call.WaitingCall.TheVariants as waiting
use Rattle.call_parts.specs.declared.epoll.WaitPlan.{WaitPlan}
use Rattle.file_calls.specs.declared.known.Known.{Known}
use Rattle.host_calls.specs.declared.parts.Reaction.{Reaction}
use Rattle.host_calls.specs.declared.parts.Reaction.TheVariants.{Value}
use Rattle.file_calls.specs.declared.task.Shared.{Shared}
use Rattle.file_calls.specs.declared.task.Task.{Task}
use Rattle.host_calls.specs.declared.plan.Plan.TheVariants as plan
use Rattle.host_calls.specs.Calls.{reacts, done, waiting_row}
use Rattle.call_parts.specs.Plain.{arg}
use Rattle.host_calls.specs.Epoll.{TellAlike, all_seen, told_of, wait_plan, epoll_waits, epoll_pwait}
use Rattle.call_parts.specs.Epoll.{nothing_seen, up_to, event_bytes, telling}
use Rattle.call_parts.proofs.Reports.{is_above}
use Rattle.host_calls.specs.Parts.{Scene, scene, Answers}
use Rattle.file_calls.specs.Scene.{Local}

-- an entry that isn't due isn't told
not_told : (room : ℕ) (w : Watch) (s : Seen) → is_due w s ≡ false → is_told room w s ≡ false
not_told room w s h = ap (λ b. nat_lt 0 room && b) h ∙ and-false (nat_lt 0 room)

nothing_due : (w : Watch) → is_due w nothing_seen ≡ false
nothing_due w = refl

-- where nothing is seen behind, nothing is told
told_behind : (room : ℕ) (all : List Seen) (n : ℕ) (ws : List Watch) → told room (all ++ replicate n nothing_seen) ws ≡ told room all ws
unfolding told
told_behind room [] zero ws = refl
told_behind room [] (suc n) [] = refl
told_behind room [] (suc n) (w ∷ ws) = rw (not_told room w nothing_seen (nothing_due w)) (told_behind room [] n ws)
told_behind room (s ∷ all) n [] = refl
told_behind room (s ∷ all) n (w ∷ ws) =
    ap₂ (λ x y. if is_told room w s then entry_of w s ∷ x else y) (told_behind (room - 1) all n ws) (told_behind room all n ws)

left_behind : (room : ℕ) (all : List Seen) (n : ℕ) (ws : List Watch) → reported room (all ++ replicate n nothing_seen) ws ≡ reported room all ws
unfolding reported
left_behind room [] zero ws = refl
left_behind room [] (suc n) [] = refl
left_behind room [] (suc n) (w ∷ ws) = rw (not_told room w nothing_seen (nothing_due w)) (ap (λ xs. w ∷ xs) (left_behind room [] n ws))
left_behind room (s ∷ all) n [] = refl
left_behind room (s ∷ all) n (w ∷ ws) =
    ap₂ (λ x y. if is_told room w s then report_of w s ∷ x else w ∷ y) (left_behind (room - 1) all n ws) (left_behind room all n ws)

-- what stands for an entry: what is seen of it where it is due, and nothing where it isn't
pub if_told : Bool → Seen → Seen
if_told true s = s
if_told false s = nothing_seen

pub noted : (Watch → Seen) → Watch → Seen
noted g w = if_told (is_due w (g w)) (g w)

told_first : (due : Bool) (room : ℕ) (w : Watch) (s : Seen) (some others : List Seen) (ws : List Watch) → is_due w s ≡ due
    → told (room - 1) some ws ≡ told (room - 1) others ws → told room some ws ≡ told room others ws
    → told room (if_told due s ∷ some) (w ∷ ws) ≡ told room (s ∷ others) (w ∷ ws)
unfolding told if_told
told_first true room w s some others ws e less same = ap₂ (λ x y. if is_told room w s then entry_of w s ∷ x else y) less same
told_first false room w s some others ws e less same =
    rw (not_told room w nothing_seen (nothing_due w), not_told room w s e) same

left_first : (due : Bool) (room : ℕ) (w : Watch) (s : Seen) (some others : List Seen) (ws : List Watch) → is_due w s ≡ due
    → reported (room - 1) some ws ≡ reported (room - 1) others ws → reported room some ws ≡ reported room others ws
    → reported room (if_told due s ∷ some) (w ∷ ws) ≡ reported room (s ∷ others) (w ∷ ws)
unfolding reported if_told
left_first true room w s some others ws e less same = ap₂ (λ x y. if is_told room w s then report_of w s ∷ x else w ∷ y) less same
left_first false room w s some others ws e less same =
    rw (not_told room w nothing_seen (nothing_due w), not_told room w s e) (ap (λ xs. w ∷ xs) same)

told_noted : (g : Watch → Seen) (room : ℕ) (ws : List Watch) → told room (map (noted g) ws) ws ≡ told room (map g ws) ws
unfolding noted
told_noted g room [] = refl
told_noted g room (w ∷ ws) = told_first (is_due w (g w)) room w (g w) (map (noted g) ws) (map g ws) ws refl (told_noted g (room - 1) ws) (told_noted g room ws)

left_noted : (g : Watch → Seen) (room : ℕ) (ws : List Watch) → reported room (map (noted g) ws) ws ≡ reported room (map g ws) ws
unfolding noted
left_noted g room [] = refl
left_noted g room (w ∷ ws) = left_first (is_due w (g w)) room w (g w) (map (noted g) ws) (map g ws) ws refl (left_noted g (room - 1) ws) (left_noted g room ws)

-- after so many entries were looked at
pub record Noting (g : Watch → Seen) (entries : List Watch) (place : ℕ) (all : List Seen) : Type 0 where
  pub seen : up_to place all ≡ map (noted g) (take place entries)
  pub due : nat_lt 0 (length all) ≡ list_any (λ w. is_due w (g w)) (take place entries)

pub begins : (g : Watch → Seen) (entries : List Watch) → Noting g entries 0 []
begins g entries = record { seen = refl; due = refl }

-- one entry more, of which nothing stands where it isn't due
module _ (g : Watch → Seen) (entries : List Watch) (place : ℕ) (w d : Watch) (all : List Seen)
    (h : Noting g entries place all) (within : place < length entries) (w_is : w ≡ get_or entries place d) where
  notes_more : map (noted g) (take (place + 1) entries) ≡ map (noted g) (take place entries) ++ noted g w ∷ []
  notes_more = map_more (noted g) entries place d within ∙ ap (λ v. map (noted g) (take place entries) ++ noted g v ∷ []) (sym w_is)

  due_more : list_any (λ v. is_due v (g v)) (take (place + 1) entries) ≡ (list_any (λ v. is_due v (g v)) (take place entries) || is_due w (g w))
  due_more =
      ap (list_any (λ v. is_due v (g v))) (take_more entries place d within ∙ ap (λ v. take place entries ++ v ∷ []) (sym w_is))
      ∙ list_any-append (λ v. is_due v (g v)) (take place entries) (w ∷ [])
      ∙ ap (λ b. list_any (λ v. is_due v (g v)) (take place entries) || b) (or-false (is_due w (g w)))

  pub not_due : length all ≤ place → is_due w (g w) ≡ false → Noting g entries (place + 1) all
  unfolding noted if_told
  not_due few e =
      let more : place + 1 - length all ≡ place - length all + 1 = omega arith in
      record {
        seen = ap (λ n. all ++ replicate n nothing_seen) more
            ∙ ap (λ xs. all ++ xs) (replicate_next (place - length all) nothing_seen)
            ∙ sym (append_assoc all (replicate (place - length all) nothing_seen) (nothing_seen ∷ []))
            ∙ ap (λ xs. xs ++ nothing_seen ∷ []) h.seen
            ∙ sym (notes_more ∙ ap (λ b. map (noted g) (take place entries) ++ if_told b (g w) ∷ []) e);
        due = h.due ∙ sym (due_more ∙ ap (λ b. list_any (λ v. is_due v (g v)) (take place entries) || b) e ∙ or-false _);
      }

  pub is_noted : (next : List Seen) → is_due w (g w) ≡ true → next ≡ up_to place all ++ g w ∷ [] → length next ≡ place + 1 → Noting g entries (place + 1) next
  unfolding noted if_told
  is_noted next e next_is size =
      let none : place + 1 - length next ≡ 0 = omega arith in
      record {
        seen = ap (λ n. next ++ replicate n nothing_seen) none
            ∙ append-nil next
            ∙ next_is
            ∙ ap (λ xs. xs ++ g w ∷ []) h.seen
            ∙ sym (notes_more ∙ ap (λ b. map (noted g) (take place entries) ++ if_told b (g w) ∷ []) e);
        due = is_above (length next) (omega arith) ∙ sym (due_more ∙ ap (λ b. list_any (λ v. is_due v (g v)) (take place entries) || b) e ∙ or-true _);
      }

-- what a look says
pub some_due : (b : Bool) (s seen : Seen) → Some seen ≡ (if b then Some s else None) → (b ≡ true) × (seen ≡ s)
some_due true s seen e = (refl, same_Some seen s e)
some_due false s seen e = absurd (none-some seen (sym e))

pub none_due : (b : Bool) (s : Seen) → None ≡ (if b then Some s else None) → b ≡ false
none_due true s e = absurd (none-some s e)
none_due false s e = refl

-- any entry
abbrev pub no_watch : Watch
no_watch = record { fd = 0; events = 0; «data» = 0; reported = None }

-- after all entries
module _ (g : Watch → Seen) (entries : List Watch) (place : ℕ) (all : List Seen) (h : Noting g entries place all) (ended : length entries ≤ place) where
  all_noted : all ++ replicate (place - length all) nothing_seen ≡ map (noted g) entries
  all_noted = h.seen ∙ ap (map (noted g)) (take_all place entries ended)

  pub ends_alike : TellAlike (Some entries) all (map g entries)
  ends_alike = record {
    told = λ room. sym (told_behind room all (place - length all) entries) ∙ ap (λ xs. told room xs entries) all_noted ∙ told_noted g room entries;
    left = λ room. ap Some (sym (left_behind room all (place - length all) entries) ∙ ap (λ xs. reported room xs entries) all_noted ∙ left_noted g room entries);
  }

  pub ends_due : nat_lt 0 (length all) ≡ list_any (λ w. is_due w (g w)) entries
  ends_due = h.due ∙ ap (list_any (λ w. is_due w (g w))) (take_all place entries ended)

-- what tells alike is told alike
told_so : WaitPlan → Scene → List Entry → Option (List Watch) → ℕ × Scene
told_so p s entries left = (
  length entries,
  record s {
    task = record s.task {
      epolls = slice_set s.task.epolls p.place left;
      memory = filled p.at (flat_map event_bytes entries) s.task.memory;
    };
  },
)

told_alike : (p : WaitPlan) (s : Scene) (all others : List Seen) → TellAlike (epoll_at p.place s.task.epolls) all others → told_of p all s ≡ told_of p others s
unfolding told_so
told_alike p s all others h = ap₂ (told_so p s) (h.told p.room) (h.left p.room)

-- a wait for which all has been seen that tells alike
pub waits_react : (now : Time) (p : WaitPlan) (task new : Task) (shared : Shared) (c : Sockets) (t : SocketsRecord) (all : List Seen) (found : ℕ)
    → TellAlike (epoll_at p.place task.epolls) all (all_seen now (scene (task, shared) t) (epoll_at p.place task.epolls))
    → found ≡ length (told_by p.room all (epoll_at p.place task.epolls)) → new ≡ telling p all task → Stand c t
    → Answers (reacts (epoll_waits now p (scene (task, shared) t))) (task, shared) t (new, shared) c (Ok (Value found))
waits_react now p task new shared c t all found alike found_is new_is stands =
    let tells : told_of p all (scene (task, shared) t) ≡ (found, scene (new, shared) t) = ap₂ (λ n x. (n, scene (x, shared) t)) (sym found_is) (sym new_is) in
    (t, (ap (λ (after : ℕ × Scene). reacts (Ok after)) (sym (told_alike p (scene (task, shared) t) all (all_seen now (scene (task, shared) t) (epoll_at p.place task.epolls)) alike) ∙ tells), stands))

-- the row of a wait for an epoll
both : (r : Result WaitPlan Refusal) (known : Known) (now : Time) (process : ℕ) (s : Scene)
    → ((r >>= λ p. Ok (plan.EpollWait p)) >>= λ p. done known now process p s) ≡ reacts (r >>= λ p. epoll_waits now p s)
both (Ok p) known now process s = refl
both (Err r) known now process s = refl

module _ (known : Known) (now : Time) (process : ℕ) (args : List ℕ) (s : Scene) (w : WaitingCall) (is : w ≡ waiting.EpollWait) where
  row_of_wait : waiting_row known now process w args s ≡ reacts (epoll_pwait now (arg args 0) (arg args 1) (arg args 2) (arg args 3) s)
  row_of_wait =
      ap (λ call. waiting_row known now process call args s) is
      ∙ both (wait_plan now (arg args 0) (arg args 1) (arg args 2) (arg args 3) s) known now process s

  pub wait_answers : (answer : Result Reaction CallError) (old new : Local) (t : SocketsRecord) (c : Sockets)
      → Answers (reacts (epoll_pwait now (arg args 0) (arg args 1) (arg args 2) (arg args 3) s)) old t new c answer
      → Answers (waiting_row known now process w args s) old t new c answer
  wait_answers answer old new t c h = subst (λ (row : Result (Reaction × Scene) Refusal). Answers row old t new c answer) (sym row_of_wait) h
