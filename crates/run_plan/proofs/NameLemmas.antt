-- Names that stand at one place alone.
use Rattle.std.proofs.Common.{◌≡◌, ◌∙◌, ℕ, zero, suc, ◌+◌, ◌*◌, ◌/◌, ◌%◌, ◌<◌, ◌≤◌, Bool, true, false, List, [], ◌∷◌, map, Some, slice_get, Result, Ok, Err, IfOk, refl, sym, ap, subst, arith, decimal, mod-lt, ◌==◌}
use Rattle.std.specs.Cmp.Lexicographic.{pointwise, same_text}
use Rattle.std.specs.List.{range_with_len}
use Rattle.std.proofs.Math.Nat.{div-add-mod, div-div-eq-div-mul}
use Rattle.std.proofs.lemmas.Fmt.{decimal_digit}
use Rattle.std.proofs.lemmas.Option.{none-some}
use Rattle.gml_graph.specs.declared.graph.Graph.{Graph}
use Rattle.shd_config.specs.declared.config.Config.{Config}
use Rattle.shd_config.specs.declared.config.HostConfig.{HostConfig}
use Rattle.shd_config.specs.declared.fault.ConfigFault.{ConfigFault}
use Rattle.shd_config.specs.declared.overrides.Overrides.{Overrides}
use Rattle.text_trees.proofs.TextTrees.{text_plain}
use Rattle.yaml_tokens.specs.Lines.{lines_of}
use Rattle.yaml_tree.specs.Tree.{is_empty_document}
use Rattle.run_plan.specs.Configured.{configured}
use Rattle.run_plan.specs.HostRows.{host_rows}
use Rattle.run_plan.specs.Names.{AreApart, AreHostsApart}
use Rattle.run_plan.specs.Reading.{Meets}
use Rattle.run_plan.specs.SelfLoad.{host_name, ring_host, self_load_config}
use Rattle.run_plan.specs.declared.fault.ReadStop.{ReadStop}
use Rattle.run_plan.specs.declared.host_row.HostRow.{HostRow}
use Rattle.run_plan.proofs.ConfigNames.{config_names}
use Rattle.run_plan.proofs.ConfiguredLemmas.{configured_is}
use Rattle.run_plan.proofs.NameCounts.{one_if, copies, copies_permutation, some_is, one_place}
use Rattle.run_plan.proofs.RowLengthLemmas.{rows_moved}

-- ---- places and counts

-- a name that is counted has a place
place_of : (name : List ℕ) (ns : List (List ℕ)) → 1 ≤ copies name ns → (i : ℕ) × (slice_get ns i ≡ Some name)
place_of name [] some = absurd (omega (arith, some))
place_of name (n ∷ ns) some = by (pointwise ◌==◌ name n) refl some (place_of name ns)
  where
    by : (t : Bool) → pointwise ◌==◌ name n ≡ t → 1 ≤ one_if t + copies name ns → (1 ≤ copies name ns → (i : ℕ) × (slice_get ns i ≡ Some name)) → (i : ℕ) × (slice_get (n ∷ ns) i ≡ Some name)
    by true e h more = (0, ap Some (sym (same_text name n (sym e))))
    by false e h more = let at = more (omega (arith, h)) in (suc at.0, at.1)

not_again : (name n : List ℕ) (ns : List (List ℕ)) → AreApart (n ∷ ns) → name ≡ n → copies name ns ≡ 0
not_again name n ns apart same = by (copies name ns) refl
  where
    by : (k : ℕ) → copies name ns ≡ k → k ≡ 0
    by zero e = refl
    by (suc k) e = let at = place_of name ns (omega (arith, e)) in absurd (omega (arith, apart name 0 (suc at.0) (ap Some (sym same)) at.1))

once : (name : List ℕ) (ns : List (List ℕ)) → AreApart ns → copies name ns ≤ 1
once name [] apart = omega arith
once name (n ∷ ns) apart = by (pointwise ◌==◌ name n) refl (once name ns (λ m i j h k. let same = apart m (suc i) (suc j) h k in omega (arith, same)))
  where
    by : (t : Bool) → pointwise ◌==◌ name n ≡ t → copies name ns ≤ 1 → one_if t + copies name ns ≤ 1
    by true e more = omega (arith, not_again name n ns apart (same_text name n (sym e)))
    by false e more = omega (arith, more)

apart : (ns : List (List ℕ)) → ((name : List ℕ) → copies name ns ≤ 1) → AreApart ns
apart ns few name i j h k = one_place name ns (few name) i j h k

-- ---- rows

names_of_rows : (rows : List HostRow) → map (λ (h : HostConfig). h.name) (map (λ (r : HostRow). r.config) rows) ≡ map (λ (r : HostRow). r.config.name) rows
names_of_rows [] = refl
names_of_rows (r ∷ rows) = ap (λ (ns : List (List ℕ)). r.config.name ∷ ns) (names_of_rows rows)

-- the rows of hosts that are apart are apart
pub rows_apart : (name : List ℕ) (graph : Graph) (hosts : List HostConfig) (rows : List HostRow) → (host_rows name graph hosts).answers (Ok rows) → AreHostsApart hosts → AreApart (map (λ (r : HostRow). r.config.name) rows)
rows_apart name graph hosts rows h far =
    apart (map (λ (r : HostRow). r.config.name) rows)
    (λ n. let few = once n (map (λ (x : HostConfig). x.name) hosts) far in
    let same : copies n (map (λ (r : HostRow). r.config.name) rows) ≡ copies n (map (λ (x : HostConfig). x.name) hosts) =
    ap (copies n) (sym (names_of_rows rows)) ∙ copies_permutation (λ (x : HostConfig). x.name) n hosts (map (λ (r : HostRow). r.config) rows) (rows_moved name graph hosts rows h) in
    omega (arith, few, same))

-- ---- configurations

-- the hosts of the configuration of a text are apart
pub config_apart : (file text : List ℕ) (o : Overrides) (result : Result Config ReadStop) → Meets (λ (c : Config). c) (configured file text o) result → IfOk result (λ (c : Config). AreHostsApart c.hosts)
config_apart file text o (Err stop) told = tt
config_apart file text o (Ok c) told =
    let is = configured_is file text o c told in
    apart (map (λ (x : HostConfig). x.name) c.hosts)
    (λ n. subst (λ (read : Result Config ConfigFault). IfOk read (λ (d : Config). copies n (map (λ (x : HostConfig). x.name) d.hosts) ≤ 1)) is.2 (config_names n o (is_empty_document (lines_of text)) is.0 (text_plain text is.0 is.1)))

-- ---- a self-load

digits_same : (a b c d p q r s : ℕ) → 104 ∷ (48 + a) ∷ (48 + b) ∷ (48 + c) ∷ (48 + d) ∷ [] ≡ 104 ∷ (48 + p) ∷ (48 + q) ∷ (48 + r) ∷ (48 + s) ∷ [] → (a ≡ p) × (b ≡ q) × (c ≡ r) × (d ≡ s)
digits_same a b c d p q r s e =
    let first : 48 + a ≡ 48 + p = cc in
    let second : 48 + b ≡ 48 + q = cc in
    let third : 48 + c ≡ 48 + r = cc in
    let last : 48 + d ≡ 48 + s = cc in (omega (arith, first), omega (arith, second), omega (arith, third), omega (arith, last))

digit : (n : ℕ) → decimal (n % 10) ≡ (48 + n % 10) ∷ []
digit n = decimal_digit (n % 10) (mod-lt n (omega arith))

pub host_name_is : (i : ℕ) → host_name i ≡ 104 ∷ (48 + i / 1000 % 10) ∷ (48 + i / 100 % 10) ∷ (48 + i / 10 % 10) ∷ (48 + i % 10) ∷ []
host_name_is i = rw (digit (i / 1000), digit (i / 100), digit (i / 10), digit i) refl

-- a number below 10,000 by its digits
by_digits : (n : ℕ) → n < 10000 → n ≡ 1000 * (n / 1000 % 10) + 100 * (n / 100 % 10) + 10 * (n / 10 % 10) + n % 10
by_digits n few =
    let ones : 10 * (n / 10) + n % 10 ≡ n = div-add-mod n 10 in
    let tens : 10 * (n / 100) + n / 10 % 10 ≡ n / 10 = ap (λ (q : ℕ). 10 * q + n / 10 % 10) (sym (div-div-eq-div-mul n 10 10)) ∙ div-add-mod (n / 10) 10 in
    let hundreds : 10 * (n / 1000) + n / 100 % 10 ≡ n / 100 = ap (λ (q : ℕ). 10 * q + n / 100 % 10) (sym (div-div-eq-div-mul n 100 10)) ∙ div-add-mod (n / 100) 10 in
    let thousands : 10 * (n / 1000 / 10) + n / 1000 % 10 ≡ n / 1000 = div-add-mod (n / 1000) 10 in omega (arith, ones, tens, hundreds, thousands, few)

one_number : (i j : ℕ) → i < 10000 → j < 10000 → i / 1000 % 10 ≡ j / 1000 % 10 → i / 100 % 10 ≡ j / 100 % 10 → i / 10 % 10 ≡ j / 10 % 10 → i % 10 ≡ j % 10 → i ≡ j
one_number i j a b thousands hundreds tens ones = omega (arith, by_digits i a, by_digits j b, thousands, hundreds, tens, ones)

pub host_names_differ : (i j : ℕ) → i < 10000 → j < 10000 → host_name i ≡ host_name j → i ≡ j
host_names_differ i j a b e =
    let same = digits_same (i / 1000 % 10) (i / 100 % 10) (i / 10 % 10) (i % 10) (j / 1000 % 10) (j / 100 % 10) (j / 10 % 10) (j % 10) (sym (host_name_is i) ∙ (e ∙ host_name_is j)) in
    one_number i j a b same.0 same.1 same.2 same.3

ring_name : (n from count i : ℕ) (name : List ℕ) → slice_get (map (λ (h : HostConfig). h.name) (map (ring_host n) (range_with_len from count))) i ≡ Some name → (i < count) × (host_name (from + i) ≡ name)
ring_name n from zero i name h = absurd (none-some name h)
ring_name n from (suc count) zero name h = (omega arith, ap host_name (let same : from + 0 ≡ from = omega arith in same) ∙ sym (some_is (host_name from) name h))
ring_name n from (suc count) (suc i) name h =
    let rest = ring_name n (from + 1) count i name h in
    (let within = rest.0 in omega (arith, within), ap host_name (let same : from + suc i ≡ from + 1 + i = omega arith in same) ∙ rest.1)

pub ring_apart : (o : Overrides) (n : ℕ) → n ≤ 4096 → AreHostsApart (self_load_config o n).hosts
unfolding self_load_config
ring_apart o n few name i j h k =
    let a = ring_name n 0 n i name h in
    let b = ring_name n 0 n j name k in
    let left = a.0 in
    let right = b.0 in
    let same = host_names_differ (0 + i) (0 + j) (omega (arith, left, few)) (omega (arith, right, few)) (a.1 ∙ sym b.1) in omega (arith, same)

pub config_apart_as : {E : Type 0} (d : Config) (r : Result Config E) → IfOk r (λ (c : Config). c ≡ d) → AreHostsApart d.hosts → IfOk r (λ (c : Config). AreHostsApart c.hosts)
config_apart_as d (Ok c) h far = subst (λ (x : Config). AreHostsApart x.hosts) (sym h) far
config_apart_as d (Err e) h far = tt
