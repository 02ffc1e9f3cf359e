use Rattle.std.proofs.Common.{◌≡◌, ◌++◌, ◌∷◌, [], List, refl, ap, ◌∙◌}
use Rattle.std.proofs.lemmas.Result.{on_ok_weaker}
use Rattle.sim_base.specs.declared.host.HostId.{HostId}
use Rattle.round_lookahead.specs.inside.Alone.{task_ids}
use Rattle.round_lookahead.specs.inside.Backs.{lists_of}
use Rattle.round_lookahead.proofs.ShareSteps.{lists_with}
use Rattle.round_lookahead.proofs.world.sharing.Joined.add.Goals as goal

pub returns : goal.returns
returns c = on_ok_weaker c.join.result
    (λ joins. record {
      made = c.in-Some.made;
      is = c.in-Some.is;
      tasks = c.in_ok-append.ensures.items;
      took = ap lists_of c.in_ok-push.ensures.items ∙ lists_with c.args.self.now.took.items c.in_ok-ids_of.field-0
          ∙ ap (λ (l : List HostId). lists_of c.args.self.now.took.items ++ l ∷ []) (c.in_ok-ids_of.ensures ∙ ap task_ids c.as_slice.ensures.value);
      joins = joins;
    }) c.join.ensures
