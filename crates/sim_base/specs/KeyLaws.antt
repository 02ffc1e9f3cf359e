-- laws of the order of event keys
use Rattle.std.specs.Prelude.{◌≡◌, ◌&&◌, refl}
use Rattle.std.specs.Ordering.{is_eq, nat_cmp}
use Rattle.std.specs.Cmp.{IsTotalOrder, then_total, on_total, nat_cmp_total, unsigned_ties, both_tied}
use denote.Enum.Bare.{sameb}
use lib.Dec.{eqb}
use Rattle.sim_base.specs.declared.key.Kind.{Kind}
use Rattle.sim_base.specs.declared.key.Kind.TheVariants.{Packet, Local}
use Rattle.sim_base.specs.contracts.key.Kind.{the_type}
use Rattle.sim_base.specs.declared.key.Key.{Key}
use Rattle.sim_base.specs.Key.{kind_number, key_order}

-- any two keys are the same or one comes first, and what comes before comes before all that follows
pub key_order_total : IsTotalOrder key_order
key_order_total =
    then_total (on_total (λ (k : Key). k.due.nanos) nat_cmp_total)
    (then_total (on_total (λ (k : Key). kind_number k.kind) nat_cmp_total)
    (then_total (on_total (λ (k : Key). k.source.index) nat_cmp_total)
    (on_total (λ (k : Key). k.number) nat_cmp_total)))

kind_ties : (a b : Kind) → sameb the_type a b ≡ is_eq (nat_cmp (kind_number a) (kind_number b))
kind_ties Packet Packet = refl
kind_ties Packet Local = refl
kind_ties Local Packet = refl
kind_ties Local Local = refl

-- only the same key has the same place
pub key_ties : (a b : Key) → (eqb a.due.nanos b.due.nanos && (sameb the_type a.kind b.kind && (eqb a.source.index b.source.index && eqb a.number b.number))) ≡ is_eq (key_order a b)
key_ties a b =
    both_tied _ _ _ _ (unsigned_ties a.due.nanos b.due.nanos)
    (both_tied _ _ _ _ (kind_ties a.kind b.kind)
    (both_tied _ _ _ _ (unsigned_ties a.source.index b.source.index) (unsigned_ties a.number b.number)))
