use Rattle.guest_process.proofs.turning.turn_task.Given as goal

abbrev pub ghosts-turn_counted : goal.ghosts-turn_counted
ghosts-turn_counted a = record { name = a.blank.name; parts = a.blank.parts }
