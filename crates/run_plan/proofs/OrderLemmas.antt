-- Hosts in the byte order of their names.
use Rattle.std.proofs.Common.{◌≡◌, List, ap}
use Rattle.std.specs.Ordering.{nat_cmp, is_lt}
use Rattle.std.specs.declared.cmp.Ordering.{Ordering}
use Rattle.std.specs.Cmp.Lexicographic.{slice_cmp}
use Rattle.std.specs.List.Sorted.{IsSortedByClosure, IsSortedByKey, IsStableByClosure, IsStableByKey}
use Rattle.std.specs.Fn.{Called}
use Rattle.std.proofs.lemmas.Cmp.{nat_list_cmp_total}
use Rattle.std.proofs.lemmas.List.Sorted.{ranks_by}
use Rattle.std.proofs.lemmas.Fn.{always_returns_same}
use denote.Ref.{Bor}
use denote.Param.Members.{Mut}
use Rattle.shd_config.specs.declared.config.HostConfig.{HostConfig}

-- what a sort ensures whose closure compares the names
pub in_byte_order : {F : Type 0} {g : Mut F (Bor HostConfig × (Bor HostConfig × Unit {0})) Ordering} {f : F} (hosts : List HostConfig) → IsSortedByClosure g f hosts
    → ((a : Bor HostConfig × (Bor HostConfig × Unit {0})) (r : Ordering) (f' : F) → Called g f a r f' → (r ≡ slice_cmp nat_cmp a.0.now.name a.1.0.now.name) × (f' ≡ f))
    → IsSortedByKey (λ (h : HostConfig). h.name) (slice_cmp nat_cmp) hosts
in_byte_order {g = g} {f = f} hosts up h =
    up (λ x y. is_lt (slice_cmp nat_cmp x.name y.name)) (ranks_by nat_list_cmp_total (λ (h : HostConfig). h.name))
    (always_returns_same g (λ a r. is_lt r ≡ is_lt (slice_cmp nat_cmp a.0.now.name a.1.0.now.name)) f (λ a r f' k. (ap is_lt (h a r f' k).0, (h a r f' k).1)))

-- and where names tie
pub in_first_order : {F : Type 0} {g : Mut F (Bor HostConfig × (Bor HostConfig × Unit {0})) Ordering} {f : F} (before hosts : List HostConfig) → IsStableByClosure g f before hosts
    → ((a : Bor HostConfig × (Bor HostConfig × Unit {0})) (r : Ordering) (f' : F) → Called g f a r f' → (r ≡ slice_cmp nat_cmp a.0.now.name a.1.0.now.name) × (f' ≡ f))
    → IsStableByKey (λ (h : HostConfig). h.name) (slice_cmp nat_cmp) before hosts
in_first_order {g = g} {f = f} before hosts up h =
    up (λ x y. is_lt (slice_cmp nat_cmp x.name y.name)) (ranks_by nat_list_cmp_total (λ (h : HostConfig). h.name))
    (always_returns_same g (λ a r. is_lt r ≡ is_lt (slice_cmp nat_cmp a.0.now.name a.1.0.now.name)) f (λ a r f' k. (ap is_lt (h a r f' k).0, (h a r f' k).1)))
