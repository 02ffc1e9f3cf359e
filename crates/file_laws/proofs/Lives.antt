-- what has a number is what its life leaves of what it was made
use Rattle.std.proofs.Common.{◌≡◌, ◌≢◌, ℕ, ◌==◌, Bool, true, false, List, [], ◌∷◌, ◌++◌, Option, Some, None, is_some, option_map, if◌then◌else◌, refl, sym, ap, subst, ◌∙◌, arith, append-nil, append_assoc}
use Rattle.std.proofs.lemmas.Bool.Decides.{nat_tests}
use Rattle.host_files.specs.Slots.{at, free_place, added, without, after, acts}
use Rattle.file_laws.specs.Lives.{Kind, SlotAct, makes, does, ends, Life, born, with_act, slots_acted, slots_after, life_acted, life_after, slots_of, life_of, Lasts, acts_on, left_by}
use Rattle.file_laws.proofs.Places.{acts_here, without_here, set_other, made_here, made_other, none_free}

module _ {M A B : Type 0} (kind : Kind M A B) where
  -- a thing and its life, or neither
  abbrev pub Fits : Option A → Option (Life M B) → Type 0
  Fits None None = Unit {0}
  Fits None (Some life) = ⊥
  Fits (Some a) None = ⊥
  Fits (Some a) (Some life) = left_by kind life.acts (Some (kind.new life.made)) ≡ Some a

  left_one : (bs : List B) (b : B) (o : Option A) → left_by kind (bs ++ b ∷ []) o ≡ after (kind.leaves b) (left_by kind bs o)
  left_one [] b o = refl
  left_one (c ∷ bs) b o = left_one bs b (after (kind.leaves c) o)

  -- an act, and what it left
  fits_left : (b : B) (a : A) (left : Option A) (life : Life M B) → kind.leaves b a ≡ left → left_by kind life.acts (Some (kind.new life.made)) ≡ Some a → Fits left (if is_some left then Some (with_act b life) else None)
  fits_left b a None life e h = tt
  fits_left b a (Some c) life e h =
      left_one life.acts b (Some (kind.new life.made)) ∙ (ap (λ (o : Option A). after (kind.leaves b) o) h ∙ e)

  fits_act : (b : B) (o : Option A) (life : Option (Life M B)) → Fits o life → Fits (after (kind.leaves b) o) (if is_some (after (kind.leaves b) o) then option_map (with_act b) life else None)
  fits_act b None None h = tt
  fits_act b None (Some life) h = absurd h
  fits_act b (Some a) None h = absurd h
  fits_act b (Some a) (Some life) h = fits_left b a (kind.leaves b a) life refl h

  abbrev Lives : ℕ → List (Option A) → Option (Life M B) → Type 0
  Lives k slots life = Fits (at k slots) life

  acted_by : (same : Bool) (j k : ℕ) (b : B) (slots : List (Option A)) (life : Option (Life M B)) → (j == k) ≡ same → Lives k slots life → Lives k (acts (kind.leaves b) j slots) (if same then (if is_some (after (kind.leaves b) (at k slots)) then option_map (with_act b) life else None) else life)
  acted_by true j k b slots life e h =
      let same : k ≡ j = grind (arith, nat_tests) in
      let left = if is_some (after (kind.leaves b) (at k slots)) then option_map (with_act b) life else None in
      subst (λ (n : ℕ). Fits (at k (acts (kind.leaves b) n slots)) left) same
      (subst (λ (o : Option A). Fits o left) (sym (acts_here (kind.leaves b) k slots)) (fits_act b (at k slots) life h))
  acted_by false j k b slots life e h =
      let apart : j ≢ k = (λ same. grind (arith, nat_tests)) in
      subst (λ (o : Option A). Fits o life) (sym (set_other j k (after (kind.leaves b) (at j slots)) slots apart)) h

  made_by : (same : Bool) (k : ℕ) (made : M) (slots : List (Option A)) (life : Option (Life M B)) → (free_place slots == k) ≡ same → Lives k slots life → Lives k (added (kind.new made) slots) (if same then Some (born made) else life)
  made_by true k made slots life e h =
      let same : free_place slots ≡ k = grind (arith, nat_tests) in
      let here : at k (added (kind.new made) slots) ≡ Some (kind.new made) = subst (λ (n : ℕ). at n (added (kind.new made) slots) ≡ Some (kind.new made)) same (made_here (kind.new made) slots) in
      subst (λ (o : Option A). Fits o (Some (born made))) (sym here) refl
  made_by false k made slots life e h =
      let apart : free_place slots ≢ k = (λ same. grind (arith, nat_tests)) in
      subst (λ (o : Option A). Fits o life) (sym (made_other k (kind.new made) slots apart)) h

  ended_by : (same : Bool) (j k : ℕ) (slots : List (Option A)) (life : Option (Life M B)) → (j == k) ≡ same → Lives k slots life → Lives k (without j slots) (if same then None else life)
  ended_by true j k slots life e h =
      let same : k ≡ j = grind (arith, nat_tests) in
      subst (λ (n : ℕ). Fits (at k (without n slots)) None) same
      (subst (λ (o : Option A). Fits o None) (sym (without_here k slots)) tt)
  ended_by false j k slots life e h =
      let apart : j ≢ k = (λ same. grind (arith, nat_tests)) in subst (λ (o : Option A). Fits o life) (sym (set_other j k None slots apart)) h

  act_lives : (k : ℕ) (act : SlotAct M B) (slots : List (Option A)) (life : Option (Life M B)) → Lives k slots life → Lives k (slots_acted kind act slots) (life_acted kind k act slots life)
  act_lives k (makes made) slots life h = made_by (free_place slots == k) k made slots life refl h
  act_lives k (does j b) slots life h = acted_by (j == k) j k b slots life refl h
  act_lives k (ends j) slots life h = ended_by (j == k) j k slots life refl h

  all_live : (k : ℕ) (history : List (SlotAct M B)) (slots : List (Option A)) (life : Option (Life M B)) → Lives k slots life → Lives k (slots_after kind history slots) (life_after kind k history slots life)
  all_live k [] slots life h = h
  all_live k (act ∷ history) slots life h =
      all_live k history (slots_acted kind act slots) (life_acted kind k act slots life) (act_lives k act slots life h)

  fits_of : (history : List (SlotAct M B)) (k : ℕ) → Fits (at k (slots_of kind history)) (life_of kind k history)
  fits_of history k = all_live k history [] None tt

  -- a thing that is there has a life, which leaves it
  pub record Leaves (life : Option (Life M B)) (a : A) : Type 0 where
    pub lived : Life M B
    pub is : life ≡ Some lived
    pub left : left_by kind lived.acts (Some (kind.new lived.made)) ≡ Some a

  leaves_by : (o : Option A) (life : Option (Life M B)) (a : A) → o ≡ Some a → Fits o life → Leaves life a
  leaves_by None life a e h = cc
  leaves_by (Some x) None a e h = absurd h
  leaves_by (Some x) (Some life) a e h = record { lived = life; is = refl; left = h ∙ e }

  pub lives : (history : List (SlotAct M B)) (k : ℕ) (a : A) → at k (slots_of kind history) ≡ Some a → Leaves (life_of kind k history) a
  lives history k a there = leaves_by (at k (slots_of kind history)) (life_of kind k history) a there (fits_of history k)

  -- where nothing is there is no life
  none_by : (o : Option A) (life : Option (Life M B)) → o ≡ None → Fits o life → life ≡ None
  none_by None None e h = refl
  none_by None (Some life) e h = absurd h
  none_by (Some x) life e h = cc

  pub gone : (history : List (SlotAct M B)) (k : ℕ) → at k (slots_of kind history) ≡ None → life_of kind k history ≡ None
  gone history k none = none_by (at k (slots_of kind history)) (life_of kind k history) none (fits_of history k)

  pub none_left : (bs : List B) → left_by kind bs None ≡ None
  none_left [] = refl
  none_left (b ∷ bs) = none_left bs

  -- a thing that lasts has one life, to which acts add
  there_by : (o : Option A) (life : Option (Life M B)) (l : Life M B) → life ≡ Some l → Fits o life → is_some o ≡ true
  there_by None None l e h = cc
  there_by None (Some life) l e h = absurd h
  there_by (Some a) life l e h = refl

  abbrev with_all : Life M B → List B → Life M B
  with_all life bs = record { made = life.made; acts = life.acts ++ bs }

  -- the life after one act that leaves the thing there
  acted_life : (same : Bool) (j k : ℕ) (b : B) (slots : List (Option A)) (life : Life M B) → (j == k) ≡ same → is_some (at k (acts (kind.leaves b) j slots)) ≡ true → (if same then (if is_some (after (kind.leaves b) (at k slots)) then Some (with_act b life) else None) else Some life) ≡ Some (with_all life (if same then b ∷ [] else []))
  acted_life true j k b slots life e there =
      let same : k ≡ j = grind (arith, nat_tests) in
      let here : is_some (after (kind.leaves b) (at k slots)) ≡ true = subst (λ (o : Option A). is_some o ≡ true) (acts_here (kind.leaves b) k slots) (subst (λ (n : ℕ). is_some (at k (acts (kind.leaves b) n slots)) ≡ true) (sym same) there) in
      ap (λ (c : Bool). if c then Some (with_act b life) else None) here
  acted_life false j k b slots life e there = ap (λ (bs : List B). Some (record { made = life.made; acts = bs })) (sym (append-nil life.acts))

  made_life : (same : Bool) (k : ℕ) (made : M) (slots : List (Option A)) (life : Life M B) → (free_place slots == k) ≡ same → is_some (at k slots) ≡ true → (if same then Some (born made) else Some life) ≡ Some (with_all life [])
  made_life true k made slots life e there =
      let same : free_place slots ≡ k = grind (arith, nat_tests) in
      absurd (no_thing (at k slots) (subst (λ (n : ℕ). at n slots ≡ None) same (none_free slots)) there)
    where
      no_thing : (o : Option A) → o ≡ None → is_some o ≡ true → ⊥
      no_thing None e h = cc
      no_thing (Some a) e h = cc
  made_life false k made slots life e there = ap (λ (bs : List B). Some (record { made = life.made; acts = bs })) (sym (append-nil life.acts))

  ended_life : (same : Bool) (j k : ℕ) (slots : List (Option A)) (life : Life M B) → (j == k) ≡ same → is_some (at k (without j slots)) ≡ true → (if same then None else Some life) ≡ Some (with_all life [])
  ended_life true j k slots life e there =
      let same : j ≡ k = grind (arith, nat_tests) in
      absurd (no_thing (at k (without j slots)) (subst (λ (n : ℕ). at n (without j slots) ≡ None) same (without_here j slots)) there)
    where
      no_thing : (o : Option A) → o ≡ None → is_some o ≡ true → ⊥
      no_thing None e h = cc
      no_thing (Some a) e h = cc
  ended_life false j k slots life e there = ap (λ (bs : List B). Some (record { made = life.made; acts = bs })) (sym (append-nil life.acts))

  abbrev one_on : ℕ → SlotAct M B → List B
  one_on k act = acts_on kind k (act ∷ [])

  act_adds : (k : ℕ) (act : SlotAct M B) (slots : List (Option A)) (life : Life M B) → is_some (at k slots) ≡ true → is_some (at k (slots_acted kind act slots)) ≡ true → life_acted kind k act slots (Some life) ≡ Some (with_all life (one_on k act))
  act_adds k (makes made) slots life before there = made_life (free_place slots == k) k made slots life refl before
  act_adds k (does j b) slots life before there = acted_life (j == k) j k b slots life refl there
  act_adds k (ends j) slots life before there = ended_life (j == k) j k slots life refl there

  on_more : (k : ℕ) (act : SlotAct M B) (more : List (SlotAct M B)) → one_on k act ++ acts_on kind k more ≡ acts_on kind k (act ∷ more)
  on_more k (makes made) more = refl
  on_more k (does j b) more = by_test (j == k)
    where
      by_test : (same : Bool) → (if same then b ∷ [] else []) ++ acts_on kind k more ≡ (if same then b ∷ acts_on kind k more else acts_on kind k more)
      by_test true = refl
      by_test false = refl
  on_more k (ends j) more = refl

  lasting_life : (k : ℕ) (more : List (SlotAct M B)) (slots : List (Option A)) (life : Life M B) → is_some (at k slots) ≡ true → Lasts kind k more slots → life_after kind k more slots (Some life) ≡ Some (with_all life (acts_on kind k more))
  lasting_life k [] slots life before lasts = ap (λ (bs : List B). Some (record { made = life.made; acts = bs })) (sym (append-nil life.acts))
  lasting_life k (act ∷ more) slots life before lasts =
      let next = slots_acted kind act slots in
      let added_to = with_all life (one_on k act) in
      ap (λ (o : Option (Life M B)). life_after kind k more next o) (act_adds k act slots life before lasts.0)
      ∙ (lasting_life k more next added_to lasts.0 lasts.1
      ∙ ap (λ (bs : List B). Some (record { made = life.made; acts = bs })) (append_assoc life.acts (one_on k act) (acts_on kind k more) ∙ ap (λ (bs : List B). life.acts ++ bs) (on_more k act more)))

  life_joined : (k : ℕ) (history more : List (SlotAct M B)) (slots : List (Option A)) (life : Option (Life M B)) → life_after kind k (history ++ more) slots life ≡ life_after kind k more (slots_after kind history slots) (life_after kind k history slots life)
  life_joined k [] more slots life = refl
  life_joined k (act ∷ history) more slots life = life_joined k history more (slots_acted kind act slots) (life_acted kind k act slots life)

  pub life_goes_on : (history more : List (SlotAct M B)) (k : ℕ) (life : Life M B) → life_of kind k history ≡ Some life → Lasts kind k more (slots_of kind history) → life_of kind k (history ++ more) ≡ Some (record { made = life.made; acts = life.acts ++ acts_on kind k more })
  life_goes_on history more k life is lasts =
      life_joined k history more [] None
      ∙ (ap (λ (o : Option (Life M B)). life_after kind k more (slots_of kind history) o) is
      ∙ lasting_life k more (slots_of kind history) life (there_by (at k (slots_of kind history)) (life_of kind k history) life is (fits_of history k)) lasts)
