-- The first round of two hosts 10 ms apart, step by step.
use Rattle.std.proofs.Common.{◌≡◌, ℕ, List, [], ◌∷◌, Option, Some, None, refl}
use Rattle.world_order.proofs.Toy.{two_hosts, opening, first_round, take, other_first, sender_first, at_once, packet, pause, start_of}
use Rattle.world_order.specs.Round.{opened, Going, Closed, State}
use Rattle.world_order.specs.Schedule.{after_all, fired_in, made_in}
use Rattle.world_order.specs.Steps.{after}
use Rattle.world_order.specs.Window.{window_end}
use Rattle.world_order.specs.World.{next, IsResult, is_over, goes_on}
use Rattle.world_order.specs.declared.step.Spot.TheVariants.{Place, Spill}
use Rattle.world_order.specs.declared.step.Step.{Step}
use Rattle.world_order.specs.declared.step.Step.TheVariants.{Fire, Put, Back, Close}
use Rattle.world_order.proofs.Toy as toy

-- windows
two_hosts_end : window_end (Some 10000000) 1000000000 0 ≡ 10000000
two_hosts_end = refl

last_end : window_end (Some 10000000) 1000000000 995000000 ≡ 1000000000
last_end = refl

lone_end : window_end None 1000 7 ≡ 1000
lone_end = refl

-- where steps lead from the opening of the round
leads : List Step → Option (State toy.Host (List ℕ))
leads steps = after_all two_hosts steps (Going (opened two_hosts 10000000 2 opening))

ends_other_first : leads other_first ≡ Some (Closed first_round)
unfolding leads after_all after
ends_other_first = refl

ends_sender_first : leads sender_first ≡ Some (Closed first_round)
unfolding leads after_all after
ends_sender_first = refl

ends_at_once : leads at_once ≡ Some (Closed first_round)
unfolding leads after_all after
ends_at_once = refl

-- what fires on the way, and the packet that is made
fires_at_once : fired_in two_hosts at_once (Going (opened two_hosts 10000000 2 opening)) ≡ start_of 1 ∷ start_of 0 ∷ pause ∷ []
unfolding fired_in after
fires_at_once = refl

makes_at_once : made_in two_hosts at_once (Going (opened two_hosts 10000000 2 opening)) ≡ packet ∷ []
unfolding made_in after
makes_at_once = refl

-- the model's turns before 10 ms end there too
model_ends : IsResult two_hosts 10000000 first_round opening
unfolding next
model_ends = goes_on _ _ refl (goes_on _ _ refl (goes_on _ _ refl (is_over _ refl refl)))

-- what isn't allowed: giving a host back whose events haven't fired, or whose packet isn't put; closing with a host in hand or waiting
back_early : leads (take 0 1 ∷ Back 0 ∷ []) ≡ None
unfolding leads after_all after
back_early = refl

back_midway : leads (take 0 1 ∷ Fire 0 ∷ Back 0 ∷ []) ≡ None
unfolding leads after_all after
back_midway = refl

back_with_packet : leads (take 0 0 ∷ Fire 0 ∷ Back 0 ∷ []) ≡ None
unfolding leads after_all after
back_with_packet = refl

close_early : leads (take 0 1 ∷ Fire 0 ∷ Fire 0 ∷ Back 0 ∷ Close ∷ []) ≡ None
unfolding leads after_all after
close_early = refl

close_in_hand : leads (take 0 1 ∷ Fire 0 ∷ Fire 0 ∷ Back 0 ∷ take 0 0 ∷ Fire 0 ∷ Put 0 Spill ∷ Close ∷ []) ≡ None
unfolding leads after_all after
close_in_hand = refl

-- a host is taken once, by a worker that is there and has none; nothing is put twice; there are 16 places; nothing follows the close
take_twice : leads (take 0 1 ∷ take 1 1 ∷ []) ≡ None
unfolding leads after_all after
take_twice = refl

take_two : leads (take 0 1 ∷ take 0 0 ∷ []) ≡ None
unfolding leads after_all after
take_two = refl

take_by_third : leads (take 2 1 ∷ []) ≡ None
unfolding leads after_all after
take_by_third = refl

put_twice : leads (take 0 0 ∷ Fire 0 ∷ Put 0 Spill ∷ Put 0 Spill ∷ []) ≡ None
unfolding leads after_all after
put_twice = refl

put_past : leads (take 0 0 ∷ Fire 0 ∷ Put 0 (Place 16) ∷ []) ≡ None
unfolding leads after_all after
put_past = refl

fire_late : leads (take 0 0 ∷ Fire 0 ∷ Fire 0 ∷ []) ≡ None
unfolding leads after_all after
fire_late = refl

closed_twice : after two_hosts Close (Closed first_round) ≡ None
unfolding after
closed_twice = refl
