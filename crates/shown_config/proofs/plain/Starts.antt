-- The start of a process that is known before its keys are read is the one that is read.
use Rattle.std.proofs.Common.{◌≡◌, ◌≢◌, ℕ, Bool, true, false, ◌||◌, not, if◌then◌else◌, List, [], ◌∷◌, Option, Some, None, IfOk, codes, unwrap_or, bytes_eq, Ok, refl, sym, ap, ◌∙◌, subst, true≢false}
use Rattle.std.specs.List.{AllByRecursion, list_all}
use Rattle.std.specs.Option.{option_and_then}
use Rattle.std.proofs.lemmas.Bool.{and_parts}
use Rattle.std.proofs.lemmas.List.Elements.{recursion_from_All}
use Rattle.sim_base.specs.Refusals.{◌>>=◌}
use Rattle.sim_base.specs.declared.time.Time.{Time}
use Rattle.sim_base.proofs.RefusalLemmas.{then_has, then_all, weaker}
use Rattle.shd_values.specs.Word.{names_program}
use Rattle.yaml_tree.proofs.KnownLaws.{same_bytes}
use Rattle.yaml_merge.specs.Plain.{is_null, text_in}
use Rattle.yaml_merge.specs.declared.plain.Pair.{Pair}
use Rattle.shd_config.specs.declared.key.Key.{Key}
use Rattle.shd_config.specs.declared.key.Key.TheVariants as keys
use Rattle.shd_config.specs.declared.process.ProcessDraft.{ProcessDraft}
use Rattle.shd_config.specs.declared.fault.ConfigKind.TheVariants.{WrongType, BadValue}
use Rattle.shd_config.specs.Steps.{valued, through, optional}
use Rattle.shd_config.specs.Keys.{names, key_in, key_of}
use Rattle.shd_config.specs.Values.{time_of, time_at, signal_at, text_with}
use Rattle.shd_config.specs.Process.{arguments_at, environment_at, state_at, zero_time, start_of, start_in_row, start_in, shutdown_at, process_key, process_row}
use Rattle.shown_config.specs.Plain.{AreApart}
use Rattle.shown_config.proofs.plain.Has.{through_keeps}
use Rattle.shown_config.proofs.plain.GoodTrees.{keys_in}

abbrev is_start : Option Key → Bool
is_start (Some keys.StartTime) = true
is_start _ = false

-- the one name of the start in a table
start_named : (rows : List (List ℕ × Key)) (name : List ℕ) → list_all (λ row. not (is_start (Some row.1)) || bytes_eq row.0 (codes "start_time")) rows ≡ true → is_start (key_in rows name) ≡ true → name ≡ codes "start_time"
start_named [] name h e = absurd (true≢false (sym e))
start_named (row ∷ rows) name h e =
    let k = and_parts (not (is_start (Some row.1)) || bytes_eq row.0 (codes "start_time")) (list_all _ rows) h in
    by (bytes_eq row.0 name) refl k.0 (start_named rows name k.1) e
  where
    here : (t : Bool) → is_start (Some row.1) ≡ true → (not (is_start (Some row.1)) || t) ≡ true → t ≡ true
    here t s q = subst (λ (b : Bool). (not b || t) ≡ true) s q

    by : (t : Bool) → bytes_eq row.0 name ≡ t → (not (is_start (Some row.1)) || bytes_eq row.0 (codes "start_time")) ≡ true → (is_start (key_in rows name) ≡ true → name ≡ codes "start_time") → is_start (if t then Some row.1 else key_in rows name) ≡ true → name ≡ codes "start_time"
    by true f q more s = sym (same_bytes row.0 name f) ∙ same_bytes row.0 (codes "start_time") (here (bytes_eq row.0 (codes "start_time")) s q)
    by false f q more s = more s

start_name : (name : List ℕ) → is_start (key_of name) ≡ true → name ≡ codes "start_time"
unfolding key_of
start_name name e = start_named names name refl e

abbrev NoStart : Pair → Type 0
NoStart p = is_start (key_of p.key) ≡ false

others_start : (p : Pair) (ps : List Pair) → is_start (key_of p.key) ≡ true → AllByRecursion (λ other. other ≢ p.key) (keys_in ps) → AllByRecursion NoStart ps
others_start p [] e h = tt
others_start p (q ∷ ps) e h = (by (is_start (key_of q.key)) refl, others_start p ps e h.1)
  where
    by : (t : Bool) → is_start (key_of q.key) ≡ t → t ≡ false
    by true f = absurd (h.0 (start_name q.key f ∙ sym (start_name p.key e)))
    by false f = refl

module _ (start : Option Time) where
  -- a row that isn't the start's leaves the start
  row_stays : (x : Option Time) (key : Option Key) (d : ProcessDraft) (p : Pair) → is_start key ≡ false → d.start_time ≡ x → IfOk (process_key start key d p) (λ e. e.start_time ≡ x)
  row_stays x (Some keys.StartTime) d p n h = absurd (true≢false n)
  row_stays x (Some keys.Path) d p n h = then_all (λ e. e.start_time ≡ x) (text_with names_program p) _ (λ v. h)
  row_stays x (Some keys.Args) d p n h = then_all (λ e. e.start_time ≡ x) (optional p (arguments_at p)) _ (λ v. h)
  row_stays x (Some keys.Environment) d p n h = then_all (λ e. e.start_time ≡ x) (optional p (environment_at p)) _ (λ v. h)
  row_stays x (Some keys.ShutdownTime) d p n h = then_all (λ e. e.start_time ≡ x) (optional p (shutdown_at start p)) _ (λ v. h)
  row_stays x (Some keys.ShutdownSignal) d p n h = then_all (λ e. e.start_time ≡ x) (optional p (signal_at p)) _ (λ v. h)
  row_stays x (Some keys.ExpectedFinalState) d p n h = then_all (λ e. e.start_time ≡ x) (optional p (state_at p)) _ (λ v. h)
  row_stays x _ d p n h = tt

  stays : (x : Option Time) (d : ProcessDraft) (ps : List Pair) → d.start_time ≡ x → AllByRecursion NoStart ps → IfOk (through (process_row start) d ps) (λ e. e.start_time ≡ x)
  stays x d ps h n = through_keeps (λ e. e.start_time ≡ x) NoStart (process_row start) (λ e p k m. row_stays x (key_of p.key) e p m k) d ps h n

  -- the start that is known is the one that is read
  abbrev pub IsKnown : List Pair → ProcessDraft → Type 0
  IsKnown ps d = start_in ps ≡ Some (unwrap_or d.start_time zero_time)

  start_read : (p : Pair) → IfOk (optional p (time_at p)) (λ v. start_of p ≡ Some (unwrap_or v zero_time))
  start_read p = by (is_null p.value)
    where
      timed : (o : Option Time) → IfOk (valued BadValue p o >>= λ x. Ok (Some x)) (λ v. o ≡ Some (unwrap_or v zero_time))
      timed None = tt
      timed (Some t) = refl

      read : (o : Option (List ℕ)) → IfOk ((valued WrongType p o >>= λ text. valued BadValue p (time_of text)) >>= λ x. Ok (Some x)) (λ v. option_and_then time_of o ≡ Some (unwrap_or v zero_time))
      read None = tt
      read (Some text) = timed (time_of text)

      by : (t : Bool) → IfOk (if t then Ok None else (time_at p >>= λ x. Ok (Some x))) (λ v. (if t then Some zero_time else option_and_then time_of (text_in p.value)) ≡ Some (unwrap_or v zero_time))
      by true = refl
      by false = read (text_in p.value)

  pub start_known : (d : ProcessDraft) (ps : List Pair) → d.start_time ≡ None → AreApart (keys_in ps) → IfOk (through (process_row start) d ps) (IsKnown ps)
  start_known d [] n a = ap (λ o. Some (unwrap_or o zero_time)) (sym n)
  start_known d (p ∷ ps) n a = by (key_of p.key) refl (λ e m. start_known e ps m a.1)
    where
      rest : (e : ProcessDraft) → is_start (key_of p.key) ≡ true → start_of p ≡ Some (unwrap_or e.start_time zero_time) → IfOk (through (process_row start) e ps) (λ f. start_of p ≡ Some (unwrap_or f.start_time zero_time))
      rest e s k =
          weaker (λ f. f.start_time ≡ e.start_time) (λ f. start_of p ≡ Some (unwrap_or f.start_time zero_time)) (through (process_row start) e ps)
          (stays e.start_time e ps refl (others_start p ps s (recursion_from_All (λ other. other ≢ p.key) (keys_in ps) a.0)))
          (λ f q. k ∙ ap (λ o. Some (unwrap_or o zero_time)) (sym q))

      others : (key : Option Key) → is_start key ≡ false → ((e : ProcessDraft) → e.start_time ≡ None → IfOk (through (process_row start) e ps) (IsKnown ps)) → IfOk (process_key start key d p >>= λ next. through (process_row start) next ps) (IsKnown ps)
      others key s more = then_has (λ e. e.start_time ≡ None) (IsKnown ps) (process_key start key d p) _ (row_stays None key d p s n) more

      by : (key : Option Key) → key_of p.key ≡ key → ((e : ProcessDraft) → e.start_time ≡ None → IfOk (through (process_row start) e ps) (IsKnown ps))
          → IfOk (process_key start key d p >>= λ next. through (process_row start) next ps) (λ f. start_in_row key p (start_in ps) ≡ Some (unwrap_or f.start_time zero_time))
      by (Some keys.StartTime) e more =
          then_has (λ f. start_of p ≡ Some (unwrap_or f.start_time zero_time)) (λ f. start_of p ≡ Some (unwrap_or f.start_time zero_time)) (process_key start (Some keys.StartTime) d p) _
          (then_has (λ v. start_of p ≡ Some (unwrap_or v zero_time)) (λ f. start_of p ≡ Some (unwrap_or f.start_time zero_time)) (optional p (time_at p)) _ (start_read p) (λ v k. k))
          (λ f k. rest f (ap is_start e) k)
      by key e more = others key refl more
