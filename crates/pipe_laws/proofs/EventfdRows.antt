-- numbers that are added to an eventfd and taken from it, spelled out
use Rattle.std.specs.Prelude.{◌≡◌, false, true, List, [], ◌∷◌, refl}
use Rattle.host_fds.specs.Eventfd.{most, new_eventfd}
use Rattle.host_fds.specs.Rises.{no_rises}
use Rattle.pipe_laws.specs.Eventfds.{EventfdAct, Adds, Takes, eventfd_after_all}

-- each number above 0 that is added is a rise of POLLIN; a 0 isn't, nor what there is no room for, nor what a read leaves
abbrev acts : List EventfdAct
acts = Adds 2 ∷ Adds 3 ∷ Adds 0 ∷ Adds most ∷ Takes ∷ []

rises_of_acts : (eventfd_after_all acts (new_eventfd 0 false)).rises ≡ record no_rises { input = 2 }
rises_of_acts = refl

-- a semaphore's read leaves 4 of 5
semaphore_left : (eventfd_after_all acts (new_eventfd 0 true)).count ≡ 4
semaphore_left = refl

-- room for 1 comes back where a full one is read
rises_of_room : (eventfd_after_all (Adds most ∷ Takes ∷ []) (new_eventfd 0 false)).rises ≡ record no_rises { input = 1; output = 1 }
rises_of_room = refl
