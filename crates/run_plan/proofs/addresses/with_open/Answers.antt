use Rattle.std.proofs.Common.{◌≡◌, ◌∙◌, ◌+◌, ℕ, List, [], ◌∷◌, ◌++◌, drop, get_or, append_assoc, sym, ap, subst, arith, Option, None}
use Rattle.std.proofs.lemmas.List.{drop_more, at_drop_all, append-nil}
use Rattle.sim_base.specs.declared.address.Ip.{Ip}
use Rattle.run_plan.specs.Addresses.{first_address, AreAddressesFrom}
use Rattle.run_plan.specs.inside.Room.{NextAddress}
use Rattle.run_plan.proofs.AddressLemmas.{one_more, few_from}
use Rattle.run_plan.proofs.addresses.with_open.Goals as goal

pub address_host-addressed-requires : goal.address_host-addressed-requires
address_host-addressed-requires c = omega (arith, few_from c.args.given.now first_address)

pub loop-host-preserved : goal.loop-host-preserved
loop-host-preserved c =
    let xs : List (Option Ip) = c.args.hosts.now in
    let i : ℕ = c.loop-host.host-index in
    let at : drop i xs ≡ get_or xs i None ∷ drop (i + 1) xs = drop_more xs i None c.loop-host-test.true in
    let told : NextAddress c.args.given.now c.loop-host.next c.address_host-addressed.result.next (get_or xs i None) c.address_host-addressed.result.address = c.address_host-addressed.ensures.address in
    record {
      room = omega (arith, c.address_host-addressed.ensures.room);
      goes_on = λ rest more.
          subst (λ (v : List Ip). AreAddressesFrom c.args.given.now first_address xs v)
          (sym (ap (λ (v : List Ip). v ++ rest) c.in_ok-push.ensures.items ∙ append_assoc c.loop-host.addresses.items (c.address_host-addressed.result.address ∷ []) rest))
          (c.loop-host.invariant.goes_on (c.address_host-addressed.result.address ∷ rest)
          (subst (λ (hs : List (Option Ip)). AreAddressesFrom c.args.given.now c.loop-host.next hs (c.address_host-addressed.result.address ∷ rest)) (sym at)
          (one_more c.args.given.now c.loop-host.next c.address_host-addressed.result.next (get_or xs i None) c.address_host-addressed.result.address (drop (i + 1) xs) rest told more)));
    }

pub returns : goal.returns
returns c =
    let none : drop c.loop-host.host-index c.args.hosts.now ≡ [] = at_drop_all (λ (hs : List (Option Ip)). hs) c.args.hosts.now c.loop-host.host-index c.loop-host-test.false in
    subst (λ (v : List Ip). AreAddressesFrom c.args.given.now first_address c.args.hosts.now v) (append-nil c.loop-host.addresses.items)
    (c.loop-host.invariant.goes_on [] (subst (λ (hs : List (Option Ip)). AreAddressesFrom c.args.given.now c.loop-host.next hs []) (sym none) tt))
