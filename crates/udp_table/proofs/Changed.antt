-- an index of sockets of which one changes
use Rattle.std.proofs.Common.{◌≡◌, ◌≢◌, ℕ, ◌+◌, ◌-◌, ◌==◌, Bool, true, List, Option, Some, is_some, if◌then◌else◌, sym, ap, ◌∙◌, inl, inr}
use Rattle.std.specs.List.{list_any, sum_by}
use Rattle.std.specs.HashMap.{get}
use Rattle.std.proofs.lemmas.Bool.{cases_eq, eq-eqb, ne_eqb}
use Rattle.sim_base.specs.declared.address.Addr.{Addr}
use Rattle.sim_base.specs.declared.address.Ip.{Ip}
use Rattle.sim_base.specs.Addresses.{is_same, is_same_ip}
use Rattle.number_sets.specs.Sets.{has}
use Rattle.number_sets.specs.Bags.{Holds}
use Rattle.number_sets.specs.Ports.{given_end, once}
use Rattle.number_sets.proofs.PortsCounted.{holds_same}
use Rattle.sock_udp.specs.declared.ends.UdpEnds.{UdpEnds}
use Rattle.udp_table.specs.declared.index.Index.{Index}
use Rattle.udp_table.specs.Table.{local_in}
use Rattle.udp_table.specs.inside.Indexing.{at_place, times, Finds, Changes, Indexes}
use Rattle.udp_table.proofs.Counted.{changed_sum}

pub indexes_changed : (i j : Index) (place : ℕ) (before after : Option UdpEnds) (from to : Option Addr) (old new : List (Option UdpEnds))
    → Changes place before after old new → Indexes i old → from ≡ local_in before → to ≡ local_in after
    → ((k : ℕ) → has j.taken k ≡ (if k == place then is_some after else has i.taken k))
    → ((f : ℕ → ℕ) → Holds i.ports f → Holds j.ports (λ n. f n + once (given_end to) n - once (given_end from) n))
    → ((q : Addr) → to ≡ Some q → list_any (is_same_ip q.ip) j.addresses.items ≡ true)
    → ((ip : Ip) → list_any (is_same_ip ip) i.addresses.items ≡ true → list_any (is_same_ip ip) j.addresses.items ≡ true)
    → ((f g : ℕ → Option Addr) → f place ≡ from → g place ≡ to → ((k : ℕ) → k ≢ place → g k ≡ f k) → Finds (get is_same i.bound) f → Finds (get is_same j.bound) g)
    → Indexes j new
indexes_changed i j place before after from to old new h index is_from is_to mark count noted notes move = record {
  taken = λ k. elim (cases_eq k place) as (λ _. has j.taken k ≡ is_some (at_place new k)) [
    | inl same ↦ mark k ∙ (ap (λ (b : Bool). if b then is_some after else has i.taken k) (eq-eqb k place same) ∙ sym (ap (λ (n : ℕ). is_some (at_place new n)) same ∙ ap is_some h.is))
    | inr apart ↦ mark k ∙ (ap (λ (b : Bool). if b then is_some after else has i.taken k) (ne_eqb k place apart) ∙ (index.taken k ∙ sym (ap is_some (h.others k apart))))
  ];
  ports = holds_same j.ports (λ n. sum_by (times n) old + once (given_end to) n - once (given_end from) n) (λ n. sum_by (times n) new)
      (λ n. ap (λ (o : Option Addr). sum_by (times n) old + once (given_end o) n - once (given_end from) n) is_to
      ∙ (ap (λ (o : Option Addr). sum_by (times n) old + times n after - once (given_end o) n) is_from ∙ changed_sum place before after old new n h))
      (count (λ n. sum_by (times n) old) index.ports);
  bound = move (λ k. local_in (at_place old k)) (λ k. local_in (at_place new k)) (ap local_in h.was ∙ sym is_from) (ap local_in h.is ∙ sym is_to)
      (λ k apart. ap local_in (h.others k apart)) index.bound;
  addresses = λ k q e. elim (cases_eq k place) as (λ _. list_any (is_same_ip q.ip) j.addresses.items ≡ true) [
    | inl same ↦ noted q (is_to ∙ (sym (ap local_in h.is) ∙ (ap (λ (n : ℕ). local_in (at_place new n)) (sym same) ∙ e)))
    | inr apart ↦ notes q.ip (index.addresses k q (sym (ap local_in (h.others k apart)) ∙ e))
  ];
}
