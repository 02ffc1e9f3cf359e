use Rattle.std.proofs.Common.{◌≡◌, ℕ, ◌≤◌, vec_len, drop}
use Rattle.std.specs.BTreeMap.{get}
use Rattle.std.specs.List.{position_from}
use Rattle.std.specs.Ordering.{nat_cmp}
use Rattle.sim_base.specs.Addresses.{is_same_ip}
use Rattle.sim_base.proofs.book.Book.new.Given as goal

abbrev pub invariant-loop-at : goal.invariant-loop-at
invariant-loop-at l = record {
  within : l.at ≤ vec_len l.hosts;
  told : (bits : ℕ) → get nat_cmp l.index bits ≡ position_from (is_same_ip (record { bits = bits })) l.at (drop l.at l.hosts.items);
}

abbrev pub decreases-loop-at : goal.decreases-loop-at
decreases-loop-at l = l.at
