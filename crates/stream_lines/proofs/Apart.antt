-- No two of the addresses of hosts are one.
use Rattle.std.proofs.Common.{◌≡◌, ℕ, zero, suc, ◌+◌, ◌%◌, ◌<◌, ◌≤◌, ◌==◌, Bool, true, false, not, ◌&&◌, ◌||◌, List, [], ◌∷◌, ◌++◌, map, Option, Some, None, ◌⊎◌, inl, inr, slice_get, Ok, refl, sym, ap, subst, ◌∙◌, append-nil, arith, eqb-true, eq-eqb}
use Rattle.std.specs.List.{AllByRecursion}
use Rattle.std.specs.Option.{option_map_or, option_to_list}
use Rattle.std.proofs.lemmas.Bool.{false≢true, false_from_ne_true}
use Rattle.std.proofs.lemmas.Option.{none-some}
use Rattle.sim_base.specs.Addresses.{has_host, is_same_ip}
use Rattle.sim_base.specs.Refusals.{◌>>=◌, or_refuse, refuse_if}
use Rattle.sim_base.specs.declared.address.Ip.{Ip}
use Rattle.sim_base.proofs.RefusalLemmas.{bind_ok_by}
use Rattle.gml_graph.specs.declared.graph.Node.{Node}
use Rattle.shd_config.specs.declared.config.HostConfig.{HostConfig}
use Rattle.run_plan.specs.Addresses.{is_open, given_addresses, AreAddressesFrom, AreAddresses, first_address}
use Rattle.run_plan.specs.Rates.{node_of, rate_of, at_host, is_given_again, rates_of, rates_behind, all_rates}
use Rattle.run_plan.specs.declared.fault.HostFault.TheVariants.{UnknownNode, NoBandwidth, DuplicateAddress}
use Rattle.run_plan.specs.declared.rates.Rates.{Rates}

-- ---- members

has_left : (xs ys : List Ip) (ip : Ip) → has_host xs ip ≡ true → has_host (xs ++ ys) ip ≡ true
has_left [] ys ip h = absurd (false≢true h)
has_left (x ∷ xs) ys ip h = by (is_same_ip ip x) h (has_left xs ys ip)
  where
    by : (t : Bool) → (t || has_host xs ip) ≡ true → (has_host xs ip ≡ true → has_host (xs ++ ys) ip ≡ true) → (t || has_host (xs ++ ys) ip) ≡ true
    by true k more = refl
    by false k more = more k

has_right : (xs ys : List Ip) (ip : Ip) → has_host ys ip ≡ true → has_host (xs ++ ys) ip ≡ true
has_right [] ys ip h = h
has_right (x ∷ xs) ys ip h = by (is_same_ip ip x) (has_right xs ys ip h)
  where
    by : (t : Bool) → has_host (xs ++ ys) ip ≡ true → (t || has_host (xs ++ ys) ip) ≡ true
    by true more = refl
    by false more = more

has_itself : (ip : Ip) → has_host (ip ∷ []) ip ≡ true
has_itself ip = ap (λ (t : Bool). t || false) (eq-eqb ip.bits ip.bits refl)

-- of two addresses one of which is in a list they are two
one_in : (hosts : List Ip) (x y : Ip) → has_host hosts x ≡ true → has_host hosts y ≡ false → is_same_ip x y ≡ false
one_in hosts x y h k =
    false_from_ne_true (is_same_ip x y)
    (λ e. let same : has_host hosts x ≡ has_host hosts y = ap (λ (n : ℕ). has_host hosts (record { bits = n })) (eqb-true x.bits y.bits e) in
    false≢true (sym k ∙ (sym same ∙ h)))

other_in : (hosts : List Ip) (x y : Ip) → has_host hosts x ≡ false → has_host hosts y ≡ true → is_same_ip x y ≡ false
other_in hosts x y h k =
    false_from_ne_true (is_same_ip x y)
    (λ e. let same : has_host hosts x ≡ has_host hosts y = ap (λ (n : ℕ). has_host hosts (record { bits = n })) (eqb-true x.bits y.bits e) in
    false≢true (sym h ∙ (same ∙ k)))

earlier_one : (x y : Ip) → x.bits < y.bits → is_same_ip x y ≡ false
earlier_one x y less = false_from_ne_true (is_same_ip x y) (λ e. let same = eqb-true x.bits y.bits e in omega (arith, same, less))

-- an open address isn't given
open_by : (a b c : Bool) → (not a && (not b && not c)) ≡ true → c ≡ false
open_by true b c e = absurd (false≢true e)
open_by false true c e = absurd (false≢true e)
open_by false false true e = absurd (false≢true e)
open_by false false false e = refl

not_given : (given : List Ip) (a : Ip) → is_open given a.bits ≡ true → has_host given a ≡ false
not_given given a e = open_by (a.bits % 256 == 0) (a.bits % 256 == 255) (has_host given a) e

-- ---- the addresses that are given

-- each is among these
abbrev AreAmong : List Ip → List (Option Ip) → Type 0
AreAmong given [] = Unit {0}
AreAmong given (None ∷ hosts) = AreAmong given hosts
AreAmong given (Some ip ∷ hosts) = (has_host given ip ≡ true) × AreAmong given hosts

one_more : (ip : Ip) (given : List Ip) (hosts : List (Option Ip)) → AreAmong given hosts → AreAmong (ip ∷ given) hosts
one_more ip given [] h = tt
one_more ip given (None ∷ hosts) h = one_more ip given hosts h
one_more ip given (Some other ∷ hosts) h = (has_right (ip ∷ []) given other h.0, one_more ip given hosts h.1)

all_among : (hosts : List (Option Ip)) → AreAmong (given_addresses hosts) hosts
all_among [] = tt
all_among (None ∷ hosts) = all_among hosts
all_among (Some ip ∷ hosts) = (has_left (ip ∷ []) (given_addresses hosts) ip (has_itself ip), one_more ip (given_addresses hosts) hosts (all_among hosts))

-- none is among the earlier ones
abbrev AreNew : List Ip → List (Option Ip) → Type 0
AreNew earlier [] = Unit {0}
AreNew earlier (None ∷ hosts) = AreNew earlier hosts
AreNew earlier (Some ip ∷ hosts) = (has_host earlier ip ≡ false) × AreNew (earlier ++ ip ∷ []) hosts

first_new : (earlier : List Ip) (host : Option Ip) (hosts : List (Option Ip)) → option_map_or (has_host earlier) host false ≡ false → AreNew (earlier ++ option_to_list host) hosts → AreNew earlier (host ∷ hosts)
first_new earlier None hosts h more = subst (λ (ips : List Ip). AreNew ips hosts) (append-nil earlier) more
first_new earlier (Some ip) hosts h more = (h, more)

passed : {E : Type 0} (t : Bool) (refusal : E) (u : Unit {0}) → refuse_if t refusal ≡ Ok u → t ≡ false
passed true refusal u e = cc
passed false refusal u e = refl

rates_tell : (file : List ℕ) (nodes : List Node) (earlier : List Ip) (h : HostConfig) (rates : Rates) → rates_of file nodes earlier h ≡ Ok rates → is_given_again earlier h ≡ false
unfolding rates_of
rates_tell file nodes earlier h rates e =
    bind_ok_by (or_refuse (node_of nodes h.network_node_id) (at_host file h UnknownNode)) _ rates (is_given_again earlier h ≡ false) e
    (λ node r0 e0. bind_ok_by (or_refuse (rate_of h.bandwidth_up node.bandwidth_up) (at_host file h NoBandwidth)) _ rates (is_given_again earlier h ≡ false) e0
    (λ up r1 e1. bind_ok_by (or_refuse (rate_of h.bandwidth_down node.bandwidth_down) (at_host file h NoBandwidth)) _ rates (is_given_again earlier h ≡ false) e1
    (λ down r2 e2. bind_ok_by (refuse_if (is_given_again earlier h) (at_host file h DuplicateAddress)) _ rates (is_given_again earlier h ≡ false) e2
    (λ u r3 e3. passed (is_given_again earlier h) (at_host file h DuplicateAddress) u r3))))

-- hosts that have rates are given different addresses
all_new : (file : List ℕ) (nodes : List Node) (earlier : List Ip) (hosts : List HostConfig) (rates : List Rates) → rates_behind file nodes earlier hosts ≡ Ok rates → AreNew earlier (map (λ (h : HostConfig). h.ip_addr) hosts)
all_new file nodes earlier [] rates e = tt
all_new file nodes earlier (h ∷ hosts) rates e =
    let behind = earlier ++ option_to_list h.ip_addr in
    let given = map (λ (x : HostConfig). x.ip_addr) hosts in
    bind_ok_by (rates_of file nodes earlier h) (λ (first : Rates). rates_behind file nodes behind hosts >>= λ rest. Ok (first ∷ rest)) rates (AreNew earlier (h.ip_addr ∷ given)) e
    (λ first r0 e0. bind_ok_by (rates_behind file nodes behind hosts) (λ (rest : List Rates). Ok (first ∷ rest)) rates (AreNew earlier (h.ip_addr ∷ given)) e0
    (λ rest r1 e1. first_new earlier h.ip_addr given (rates_tell file nodes earlier h first r0) (all_new file nodes behind hosts rest r1)))

-- ---- all of them

-- each address is another one than all behind it
abbrev pub AreApart : List Ip → Type 0
AreApart [] = Unit {0}
AreApart (a ∷ addresses) = AllByRecursion (λ (b : Ip). is_same_ip a b ≡ false) addresses × AreApart addresses

module _ (given : List Ip) where
  -- an earlier host was given the address, or it was open and the walk is past it
  abbrev IsBehind : List Ip → ℕ → Ip → Type 0
  IsBehind earlier from y = ((has_host given y ≡ true) × (has_host earlier y ≡ true)) ⊎ ((has_host given y ≡ false) × (y.bits < from))

  one_more_given : (earlier : List Ip) (from : ℕ) (y ip : Ip) → IsBehind earlier from y → IsBehind (earlier ++ ip ∷ []) from y
  one_more_given earlier from y ip (inl h) = inl (h.0, has_left earlier (ip ∷ []) y h.1)
  one_more_given earlier from y ip (inr h) = inr h

  walked_on : (earlier : List Ip) (from next : ℕ) (y : Ip) → from ≤ next → IsBehind earlier from y → IsBehind earlier next y
  walked_on earlier from next y far (inl h) = inl h
  walked_on earlier from next y far (inr h) = inr (h.0, (let less = h.1 in omega (arith, less, far)))

  -- it is no address that is given to a later host
  not_given_later : (earlier : List Ip) (from : ℕ) (y ip : Ip) → IsBehind earlier from y → has_host earlier ip ≡ false → has_host given ip ≡ true → is_same_ip y ip ≡ false
  not_given_later earlier from y ip (inl h) new among = one_in earlier y ip h.1 new
  not_given_later earlier from y ip (inr h) new among = other_in given y ip h.0 among

  -- nor one that is open from there on
  not_open_later : (earlier : List Ip) (from : ℕ) (y a : Ip) → IsBehind earlier from y → from ≤ a.bits → has_host given a ≡ false → is_same_ip y a ≡ false
  not_open_later earlier from y a (inl h) far free = one_in given y a h.0 free
  not_open_later earlier from y a (inr h) far free = earlier_one y a (let less = h.1 in omega (arith, less, far))

  differs : (earlier : List Ip) (from : ℕ) (hosts : List (Option Ip)) (addresses : List Ip) (y : Ip) → AreNew earlier hosts → AreAmong given hosts → AreAddressesFrom given from hosts addresses → IsBehind earlier from y
      → AllByRecursion (λ (b : Ip). is_same_ip y b ≡ false) addresses
  differs earlier from [] [] y new among are behind = tt
  differs earlier from [] (a ∷ addresses) y new among are behind = absurd are
  differs earlier from (Some ip ∷ hosts) [] y new among are behind = absurd are
  differs earlier from (Some ip ∷ hosts) (a ∷ addresses) y new among are behind = (
    subst (λ (b : Ip). is_same_ip y b ≡ false) (sym are.0) (not_given_later earlier from y ip behind new.0 among.0),
    differs (earlier ++ ip ∷ []) from hosts addresses y new.1 among.1 are.1 (one_more_given earlier from y ip behind),
  )
  differs earlier from (None ∷ hosts) [] y new among are behind = absurd are
  differs earlier from (None ∷ hosts) (a ∷ addresses) y new among are behind =
      let far = are.0.within in (
        not_open_later earlier from y a behind far (not_given given a are.0.is_free),
        differs earlier (a.bits + 1) hosts addresses y new among are.1 (walked_on earlier from (a.bits + 1) y (omega (arith, far)) behind),
      )

  each_apart : (earlier : List Ip) (from : ℕ) (hosts : List (Option Ip)) (addresses : List Ip) → AreNew earlier hosts → AreAmong given hosts → AreAddressesFrom given from hosts addresses → AreApart addresses
  each_apart earlier from [] [] new among are = tt
  each_apart earlier from [] (a ∷ addresses) new among are = absurd are
  each_apart earlier from (Some ip ∷ hosts) [] new among are = absurd are
  each_apart earlier from (Some ip ∷ hosts) (a ∷ addresses) new among are =
      let here : IsBehind (earlier ++ ip ∷ []) from ip = inl (among.0, has_right earlier (ip ∷ []) ip (has_itself ip)) in (
        differs (earlier ++ ip ∷ []) from hosts addresses a new.1 among.1 are.1 (subst (IsBehind (earlier ++ ip ∷ []) from) (sym are.0) here),
        each_apart (earlier ++ ip ∷ []) from hosts addresses new.1 among.1 are.1,
      )
  each_apart earlier from (None ∷ hosts) [] new among are = absurd are
  each_apart earlier from (None ∷ hosts) (a ∷ addresses) new among are = (
    differs earlier (a.bits + 1) hosts addresses a new among are.1 (inr (not_given given a are.0.is_free, omega arith)),
    each_apart earlier (a.bits + 1) hosts addresses new among are.1,
  )

pub all_apart : (file : List ℕ) (nodes : List Node) (hosts : List HostConfig) (rates : List Rates) (addresses : List Ip) → all_rates file nodes hosts ≡ Ok rates → AreAddresses (map (λ (h : HostConfig). h.ip_addr) hosts) addresses → AreApart addresses
all_apart file nodes hosts rates addresses e are =
    let given = map (λ (h : HostConfig). h.ip_addr) hosts in
    each_apart (given_addresses given) [] first_address given addresses (all_new file nodes [] hosts rates e) (all_among given) are

-- ---- by their places

pub at_place : {A : Type 0} (P : A → Type 0) (xs : List A) (i : ℕ) (x : A) → AllByRecursion P xs → slice_get xs i ≡ Some x → P x
at_place P [] i x h at = absurd (none-some x at)
at_place P (y ∷ ys) zero x h at = let same : y ≡ x = cc in subst P same h.0
at_place P (y ∷ ys) (suc i) x h at = at_place P ys i x h.1 at

same_turned : (a b : Ip) → is_same_ip a b ≡ true → is_same_ip b a ≡ true
same_turned a b e = eq-eqb b.bits a.bits (sym (eqb-true a.bits b.bits e))

never_behind : (x a b : Ip) (addresses : List Ip) (j : ℕ) → AllByRecursion (λ (y : Ip). is_same_ip x y ≡ false) addresses → Some x ≡ Some a → slice_get addresses j ≡ Some b → is_same_ip a b ≡ true → ⊥
never_behind x a b addresses j h here there e =
    let same : x ≡ a = cc in
    false≢true (sym (subst (λ (y : Ip). is_same_ip y b ≡ false) same (at_place (λ (y : Ip). is_same_ip x y ≡ false) addresses j b h there)) ∙ e)

pub one_place : (addresses : List Ip) (i j : ℕ) (a b : Ip) → AreApart addresses → slice_get addresses i ≡ Some a → slice_get addresses j ≡ Some b → is_same_ip a b ≡ true → i ≡ j
one_place [] i j a b apart h k e = absurd (none-some a h)
one_place (x ∷ xs) zero zero a b apart h k e = refl
one_place (x ∷ xs) zero (suc j) a b apart h k e = absurd (never_behind x a b xs j apart.0 h k e)
one_place (x ∷ xs) (suc i) zero a b apart h k e = absurd (never_behind x b a xs i apart.0 k h (same_turned a b e))
one_place (x ∷ xs) (suc i) (suc j) a b apart h k e = ap suc (one_place xs i j a b apart.1 h k e)
