-- Entries that are told one after another.
use Rattle.std.proofs.Common.{◌≡◌, ℕ, suc, None, ◌+◌, ◌-◌, ◌<◌, ◌≤◌, Bool, true, false, ◌&&◌, nat_lt, List, [], ◌∷◌, ◌++◌, length, take, drop, set, get_or, refl, sym, ap, ap₂, ◌∙◌, subst, arith, append_assoc, append-nil, drop-cons, drop_of_length-le, take-suc, take-suc-set, drop-set-lt, take_all, take-append-drop, length-take-le}
use Rattle.std.proofs.lemmas.List.{drop-drop}
use Rattle.std.proofs.lemmas.Bool.Decides.{nat_tests}
use Rattle.host_fds.specs.declared.epoll.Entry.{Entry}
use Rattle.host_fds.specs.declared.epoll.Seen.{Seen}
use Rattle.host_fds.specs.declared.epoll.Watch.{Watch}
use Rattle.host_fds.specs.Rises.{no_rises}
use Rattle.host_fds.specs.Epoll.{told, reported, is_told, is_due, entry_of, report_of}

hit : (room : ℕ) (w : Watch) (s : Seen) → 0 < room → is_due w s ≡ true → is_told room w s ≡ true
hit room w s some due = grind (arith, nat_tests)

told_hit : (room : ℕ) (w : Watch) (s : Seen) (seen : List Seen) (ws : List Watch) → is_told room w s ≡ true → told room (s ∷ seen) (w ∷ ws) ≡ entry_of w s ∷ told (room - 1) seen ws
unfolding told
told_hit room w s seen ws h = rw h refl

told_miss : (room : ℕ) (w : Watch) (s : Seen) (seen : List Seen) (ws : List Watch) → is_told room w s ≡ false → told room (s ∷ seen) (w ∷ ws) ≡ told room seen ws
unfolding told
told_miss room w s seen ws h = rw h refl

told_end : (room : ℕ) (ws : List Watch) → told room [] ws ≡ []
unfolding told
told_end room ws = refl

reported_hit : (room : ℕ) (w : Watch) (s : Seen) (seen : List Seen) (ws : List Watch) → is_told room w s ≡ true → reported room (s ∷ seen) (w ∷ ws) ≡ report_of w s ∷ reported (room - 1) seen ws
unfolding reported
reported_hit room w s seen ws h = rw h refl

reported_miss : (room : ℕ) (w : Watch) (s : Seen) (seen : List Seen) (ws : List Watch) → is_told room w s ≡ false → reported room (s ∷ seen) (w ∷ ws) ≡ w ∷ reported room seen ws
unfolding reported
reported_miss room w s seen ws h = rw h refl

reported_end : (room : ℕ) (ws : List Watch) → reported room [] ws ≡ ws
unfolding reported
reported_end room ws = refl

-- an entry that isn't told
not_due : (told : Bool) → (told && false) ≡ false
not_due true = refl
not_due false = refl

pub miss_due : (room : ℕ) (w : Watch) (s : Seen) → is_due w s ≡ false → is_told room w s ≡ false
miss_due room w s h = ap (λ b. nat_lt 0 room && b) h ∙ not_due (nat_lt 0 room)

pub miss_full : (room : ℕ) (w : Watch) (s : Seen) → room ≡ 0 → is_told room w s ≡ false
miss_full room w s h = ap (λ n. nat_lt 0 n && is_due w s) h

-- any entry, and what is seen of any
abbrev pub no_watch : Watch
no_watch = record { fd = 0; events = 0; «data» = 0; reported = None }

abbrev pub no_seen : Seen
no_seen = record { fd = 0; bits = 0; rises = no_rises }

-- after so many entries were looked at, of which so many were told
pub record Reporting (room : ℕ) (seen : List Seen) (first : List Watch) (before : List Entry) (place found : ℕ) (ws : List Watch) (into : List Entry) : Type 0 where
  pub within : found ≤ room
  pub told : told room seen first ≡ take found into ++ told (room - found) (drop place seen) (drop place ws)
  pub rest : drop found into ≡ drop found before
  pub left : reported room seen first ≡ take place ws ++ reported (room - found) (drop place seen) (drop place ws)

pub begins : (room : ℕ) (seen : List Seen) (first : List Watch) (before : List Entry) → Reporting room seen first before 0 0 first before
begins room seen first before =
    let all : room - 0 ≡ room = omega arith in
    record { within = omega arith; told = ap (λ n. told n seen first) (sym all); rest = refl; left = ap (λ n. reported n seen first) (sym all) }

split : {X : Type 0} (xs : List X) (i : ℕ) (d x : X) → i < length xs → x ≡ get_or xs i d → drop i xs ≡ x ∷ drop (i + 1) xs
split xs i d x within is =
    let next : suc i ≡ i + 1 = omega arith in
    drop-cons xs i d within ∙ ap₂ (λ y n. y ∷ drop n xs) (sym is) next

longer : {X : Type 0} (xs : List X) (i : ℕ) (d x : X) → i < length xs → x ≡ get_or xs i d → take (i + 1) xs ≡ take i xs ++ x ∷ []
longer xs i d x within is =
    let next : i + 1 ≡ suc i = omega arith in
    ap (λ n. take n xs) next ∙ take-suc xs i d within ∙ ap (λ y. take i xs ++ y ∷ []) (sym is)

stored : {X : Type 0} (xs : List X) (i : ℕ) (y : X) → i < length xs → take i xs ++ y ∷ [] ≡ take (i + 1) (set xs i y)
stored xs i y within =
    let next : suc i ≡ i + 1 = omega arith in
    sym (take-suc-set xs i y within) ∙ ap (λ n. take n (set xs i y)) next

moved_over : {X : Type 0} (front back : List X) (x : X) → front ++ x ∷ back ≡ (front ++ x ∷ []) ++ back
moved_over front back x = sym (append_assoc front (x ∷ []) back)

behind : {X : Type 0} (xs : List X) (i : ℕ) (y : X) → drop (i + 1) (set xs i y) ≡ drop (i + 1) xs
behind xs i y = drop-set-lt (i + 1) xs i y (omega arith)

-- what stands behind the next place doesn't change where what stands behind this one doesn't
behind_too : {X : Type 0} (xs ys : List X) (i : ℕ) → drop i xs ≡ drop i ys → drop (i + 1) xs ≡ drop (i + 1) ys
behind_too xs ys i h = one_more xs i ∙ ap (drop 1) h ∙ sym (one_more ys i)
  where
    one_more : {X : Type 0} (zs : List X) (n : ℕ) → drop (n + 1) zs ≡ drop 1 (drop n zs)
    one_more zs n = sym (drop-drop 1 n zs)

module _ (room : ℕ) (seen : List Seen) (first : List Watch) (before : List Entry) (place found : ℕ) (ws : List Watch) (into : List Entry)
    (w dw : Watch) (s ds : Seen) (h : Reporting room seen first before place found ws into)
    (in_seen : place < length seen) (in_ws : place < length ws) (w_is : w ≡ get_or ws place dw) (s_is : s ≡ get_or seen place ds) where
  seen_split : drop place seen ≡ s ∷ drop (place + 1) seen
  seen_split = split seen place ds s in_seen s_is

  ws_split : drop place ws ≡ w ∷ drop (place + 1) ws
  ws_split = split ws place dw w in_ws w_is

  pub step_hit : found < room → length into ≡ room → is_due w s ≡ true → Reporting room seen first before (place + 1) (found + 1) (set ws place (report_of w s)) (set into found (entry_of w s))
  step_hit more size due =
      let is : is_told (room - found) w s ≡ true = hit (room - found) w s (omega arith) due in
      let next : room - found - 1 ≡ room - (found + 1) = omega arith in
      let here : found < length into = omega arith in
      record {
        within = omega arith;
        told = h.told
            ∙ ap (λ x. take found into ++ x) (ap₂ (told (room - found)) seen_split ws_split ∙ told_hit (room - found) w s _ _ is
            ∙ ap (λ n. entry_of w s ∷ told n (drop (place + 1) seen) (drop (place + 1) ws)) next)
            ∙ moved_over (take found into) _ (entry_of w s)
            ∙ ap₂ (λ x y. x ++ told (room - (found + 1)) (drop (place + 1) seen) y) (stored into found (entry_of w s) here) (sym (behind ws place (report_of w s)));
        rest = behind into found (entry_of w s) ∙ behind_too into before found h.rest;
        left = h.left
            ∙ ap (λ x. take place ws ++ x) (ap₂ (reported (room - found)) seen_split ws_split ∙ reported_hit (room - found) w s _ _ is
            ∙ ap (λ n. report_of w s ∷ reported n (drop (place + 1) seen) (drop (place + 1) ws)) next)
            ∙ moved_over (take place ws) _ (report_of w s)
            ∙ ap₂ (λ x y. x ++ reported (room - (found + 1)) (drop (place + 1) seen) y) (stored ws place (report_of w s) in_ws) (sym (behind ws place (report_of w s)));
      }

  -- the same of what the code leaves
  pub hit_is : (found' : ℕ) (ws' : List Watch) (into' : List Entry) (w' : Watch) (e : Entry) → found < room → length into ≡ room → is_due w s ≡ true
      → found' ≡ found + 1 → ws' ≡ set ws place w' → into' ≡ set into found e → w' ≡ report_of w s → e ≡ entry_of w s
      → Reporting room seen first before (place + 1) found' ws' into'
  hit_is found' ws' into' w' e more size due found_is ws_is into_is w_is' e_is =
      subst (λ n. Reporting room seen first before (place + 1) n ws' into') (sym found_is)
      (subst (λ xs. Reporting room seen first before (place + 1) (found + 1) xs into') (sym (ws_is ∙ ap (set ws place) w_is'))
      (subst (λ ys. Reporting room seen first before (place + 1) (found + 1) (set ws place (report_of w s)) ys) (sym (into_is ∙ ap (set into found) e_is))
      (step_hit more size due)))

  pub step_miss : is_told (room - found) w s ≡ false → Reporting room seen first before (place + 1) found ws into
  step_miss not_told = record {
    within = h.within;
    told = h.told ∙ ap (λ x. take found into ++ x) (ap₂ (told (room - found)) seen_split ws_split ∙ told_miss (room - found) w s _ _ not_told);
    rest = h.rest;
    left = h.left
        ∙ ap (λ x. take place ws ++ x) (ap₂ (reported (room - found)) seen_split ws_split ∙ reported_miss (room - found) w s _ _ not_told)
        ∙ moved_over (take place ws) _ w
        ∙ ap (λ x. x ++ reported (room - found) (drop (place + 1) seen) (drop (place + 1) ws)) (sym (longer ws place dw w in_ws w_is));
  }

-- what the code leaves where it tells nothing
pub unchanged : (room : ℕ) (seen : List Seen) (first : List Watch) (before : List Entry) (place found found' : ℕ) (ws ws' : List Watch) (into into' : List Entry)
    → Reporting room seen first before place found ws into → found' ≡ found → ws' ≡ ws → into' ≡ into → Reporting room seen first before place found' ws' into'
unchanged room seen first before place found found' ws ws' into into' h found_is ws_is into_is =
    subst (λ n. Reporting room seen first before place n ws' into') (sym found_is)
    (subst (λ xs. Reporting room seen first before place found xs into') (sym ws_is)
    (subst (λ ys. Reporting room seen first before place found ws ys) (sym into_is) h))

module _ (room : ℕ) (seen : List Seen) (first : List Watch) (before : List Entry) (place found : ℕ) (ws : List Watch) (into : List Entry)
    (h : Reporting room seen first before place found ws into) (all_seen : length seen ≤ place) (size : length into ≡ room) where
  none_left : drop place seen ≡ []
  none_left = drop_of_length-le seen all_seen

  told_all : told room seen first ≡ take found into
  told_all = h.told ∙ ap (λ x. take found into ++ told (room - found) x (drop place ws)) none_left ∙ ap (λ x. take found into ++ x) (told_end (room - found) (drop place ws)) ∙ append-nil (take found into)

  pub ends_count : found ≡ length (told room seen first)
  ends_count = sym (ap length told_all ∙ length-take-le found into (rw size h.within))

  pub ends_told : into ≡ told room seen first ++ drop found before
  ends_told = sym (take-append-drop found into) ∙ ap₂ (λ x y. x ++ y) (sym told_all) h.rest

  pub ends_left : ws ≡ reported room seen first
  ends_left = sym (h.left ∙ ap (λ x. take place ws ++ reported (room - found) x (drop place ws)) none_left ∙ ap (λ x. take place ws ++ x) (reported_end (room - found) (drop place ws)) ∙ take-append-drop place ws)
