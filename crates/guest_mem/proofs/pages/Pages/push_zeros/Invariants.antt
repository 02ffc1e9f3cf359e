use Rattle.std.proofs.Common.{◌≡◌, ◌+◌, ◌-◌, ◌++◌}
use Rattle.std.specs.Arc.{arc_value}
use Rattle.guest_mem.specs.inside.PageStore.{HasRoom, shown}
use Rattle.guest_mem.specs.inside.Pages.{zero_pages}
use Rattle.guest_mem.proofs.pages.Pages.push_zeros.Given as goal

abbrev pub invariant-loop-number : goal.invariant-loop-number
invariant-loop-number l = (shown l.self ≡ shown l.fn.self ++ zero_pages l.first (l.number - l.first)) × (l.self.count ≡ l.fn.self.count + (l.number - l.first)) × HasRoom l.self (l.fn.self.count + l.count) × (arc_value l.self.shared ≡ arc_value l.fn.self.shared)
