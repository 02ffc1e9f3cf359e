use Rattle.std.proofs.Common.{◌≡◌, ℕ, ◌+◌, ◌-◌, ◌*◌, ◌≤◌, sym, ap, ◌∙◌, arith, subst}
use Rattle.guest_mem.specs.Memory.{Memory}
use Rattle.guest_mem.specs.Break.{with_zeros, without, pages_to, grown, room_pages, max_pages}
use Rattle.guest_mem.specs.declared.mem.Mem.TheInside.{Inside}
use Rattle.guest_mem.proofs.BreakLemmas.{moved_down, moved_up}
use Rattle.guest_mem.proofs.mem.Mem.grow_break.Goals as goal
use Rattle.guest_mem.specs.inside.Pages.{mapped_cells}
use Rattle.guest_mem.specs.inside.PageStore.{shown}
use Rattle.guest_mem.proofs.mem.Mem.grow_break.Goals.{then-wanted-standing, else-wanted-standing+else-len-more-gt-PAGE_LIMIT+in_ok-grow}
use Rattle.elf_load.specs.Room.{page_size}

abbrev memory_of : Inside → ℕ → Memory
memory_of m break = record { cells = mapped_cells (shown m.table.pages); start = m.start; break = break; pages = m.table.pages.count }

pub returns-clause-moved : goal.returns-clause-moved
returns-clause-moved c =
    let to : ℕ = c.args.to in
    let was : Inside = c.self.inside in
    let start : ℕ = was.start in
    let old : ℕ = was.end in
    let heap : was.table.heap ≡ pages_to start = c.self.invariant.begins in
    let counted : was.table.pages.count ≡ was.table.fixed + (pages_to old - was.table.heap) = c.self.invariant.counted in
    let ordered : start ≤ old = c.self.invariant.ordered in
    let few : was.table.pages.count ≤ max_pages = c.self.invariant.few in
    let standing : c.pages_to-standing.result ≡ pages_to old = c.pages_to-standing.ensures in
    let wanted : c.pages_to-wanted.result ≡ pages_to to = c.pages_to-wanted.ensures in
    let above : start ≤ to = c.if-to-self.false in
    let low : c.pages_to-wanted.result ≤ room_pages = c.if-wanted-gt-HEAP_LIMIT.false in
    let end : was.table.heap + (was.table.pages.count - was.table.fixed) ≡ pages_to old = omega arith in
    let low_to : pages_to to ≤ room_pages = subst (λ (n : ℕ). n ≤ room_pages) wanted low in
    let first_low : pages_to start ≤ pages_to to = omega arith in
    subst (λ (m : Memory). memory_of c.if-wanted-standing.self-inside to ≡ grown m to) c.self.view_is
    (elim c.if-wanted-standing.branch [
      | then-wanted-standing w ↦
          let falls : pages_to to ≤ pages_to old = omega (arith, w.if-wanted-standing.true) in
          let fewer : w.shrink.new.self.pages.count ≡ was.table.pages.count - (c.pages_to-standing.result - c.pages_to-wanted.result) = w.shrink.ensures.fewer in
          let from : was.table.heap + (was.table.pages.count - was.table.fixed) - (c.pages_to-standing.result - c.pages_to-wanted.result) ≡ pages_to to = omega arith in
          let cells : mapped_cells (shown w.shrink.new.self.pages) ≡ without (mapped_cells (shown was.table.pages)) (page_size * pages_to to) (page_size * pages_to old) =
          w.shrink.ensures.unmapped
          ∙ ap (λ (x : ℕ). without (mapped_cells (shown was.table.pages)) (page_size * x) (page_size * (was.table.heap + (was.table.pages.count - was.table.fixed)))) from
          ∙ ap (λ (x : ℕ). without (mapped_cells (shown was.table.pages)) (page_size * pages_to to) (page_size * x)) end in
          subst (λ (x : Inside). memory_of x to ≡ grown (memory_of was old) to) (sym w.self-inside-is)
          (moved_down (memory_of was old) to (w.shrink.new.self.pages.count) (mapped_cells (shown w.shrink.new.self.pages)) above low_to (omega arith) falls cells (omega arith))
      | else-wanted-standing+else-len-more-gt-PAGE_LIMIT+in_ok-grow w ↦
          let rises : pages_to old ≤ pages_to to = omega (arith, w.if-wanted-standing.false) in
          let room : w.len.result + (c.pages_to-wanted.result - c.pages_to-standing.result) ≤ max_pages = w.if-len-more-gt-PAGE_LIMIT.false in
          let len : w.len.result ≡ was.table.pages.count = w.len.ensures in
          let more : w.grow.new.self.pages.count ≡ was.table.pages.count + (c.pages_to-wanted.result - c.pages_to-standing.result) = w.in_ok-grow.ensures.more in
          let count : c.pages_to-wanted.result - c.pages_to-standing.result ≡ pages_to to - pages_to old = omega arith in
          let cells : mapped_cells (shown w.grow.new.self.pages) ≡ with_zeros (mapped_cells (shown was.table.pages)) (page_size * pages_to old) (page_size * (pages_to to - pages_to old)) =
          w.in_ok-grow.ensures.mapped
          ∙ ap (λ (x : ℕ). with_zeros (mapped_cells (shown was.table.pages)) (page_size * x) (page_size * (c.pages_to-wanted.result - c.pages_to-standing.result))) end
          ∙ ap (λ (x : ℕ). with_zeros (mapped_cells (shown was.table.pages)) (page_size * pages_to old) (page_size * x)) count in
          subst (λ (x : Inside). memory_of x to ≡ grown (memory_of was old) to) (sym w.self-inside-is)
          (moved_up (memory_of was old) to (w.grow.new.self.pages.count) (mapped_cells (shown w.grow.new.self.pages)) above low_to (omega arith) rises cells (omega arith))
    ])
