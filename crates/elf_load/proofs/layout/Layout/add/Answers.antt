use Rattle.std.proofs.Common.{◌≡◌, ◌≤◌, true, false, length, None, Some, cond, ap, ◌∙◌, arith}
use Rattle.std.specs.List.{list_any}
use Rattle.std.proofs.lemmas.Result.{err_from_is_err_and}
use Rattle.std.proofs.lemmas.List.Elements.{All-push}
use Rattle.elf_load.specs.declared.fault.ElfFault.TheVariants.{Overlap}
use Rattle.elf_load.specs.inside.Layout.{IsPlaced}
use Rattle.elf_load.specs.Pages.{share_a_byte}
use Rattle.elf_load.proofs.Checks.{Passes, fault_of_many, fault_of_few, listed_more, IsFound_along}
use Rattle.elf_load.proofs.layout.Layout.add.Goals as goal
use Rattle.elf_load.specs.Room.{max_program_pages}

pub returns-in_err-touch-clause-refused : goal.returns-in_err-touch-clause-refused
returns-in_err-touch-clause-refused c =
    let passes : Passes c.args.bytes.now c.args.header = record {
      no_interpreter = c.if-header-eq-INTERP.false;
      no_dynamic = c.if-header-eq-DYNAMIC.false;
      segment = cc;
      in_file = omega arith;
      sizes = omega arith;
      low = omega arith;
      high = omega arith;
    } in
    let p = err_from_is_err_and c.from_residual.result c.from_residual.ensures.1 in
    rw (p.1, p.2) (IsFound_along _ _ _ (fault_of_many c.args.bytes.now c.args.self.now.pages.items c.args.self.now.segments.items c.args.header passes c.requires.pages) c.in_err-touch.ensures.many)

pub returns-then-shares_a_byte-clause-refused : goal.returns-then-shares_a_byte-clause-refused
returns-then-shares_a_byte-clause-refused c =
    let passes : Passes c.args.bytes.now c.args.header = record {
      no_interpreter = c.if-header-eq-INTERP.false;
      no_dynamic = c.if-header-eq-DYNAMIC.false;
      segment = cc;
      in_file = omega arith;
      sizes = omega arith;
      low = omega arith;
      high = omega arith;
    } in
    let shared : list_any (share_a_byte c.args.header) c.args.self.now.segments.items ≡ true = cc in
    let few : length c.touch.new.pages.items ≤ max_program_pages = omega (arith, c.in_ok-touch.ensures.few) in
    fault_of_few c.args.bytes.now c.args.self.now.pages.items c.args.self.now.segments.items c.args.header passes c.requires.pages c.touch.new.pages.items c.in_ok-touch.ensures.listed few
    ∙ ap (λ b. cond b (Some Overlap) None) shared

pub returns-clause-sound : goal.returns-clause-sound
returns-clause-sound c =
    let placed : IsPlaced c.args.bytes.now c.args.header = record { in_file = omega arith; above_first_page = omega arith; below_stack = omega arith } in
    record {
      placed = rw c.in_ok-push.ensures.items (All-push (IsPlaced c.args.bytes.now) c.args.self.now.segments.items c.args.header c.requires.placed placed);
      pages = rw c.in_ok-push.ensures.items (listed_more c.args.self.now.pages.items c.touch.new.pages.items c.args.self.now.segments.items c.args.header c.requires.pages c.in_ok-touch.ensures.listed);
      few = c.in_ok-touch.ensures.few;
    }

pub returns-clause-checked : goal.returns-clause-checked
returns-clause-checked c =
    let passes : Passes c.args.bytes.now c.args.header = record {
      no_interpreter = c.if-header-eq-INTERP.false;
      no_dynamic = c.if-header-eq-DYNAMIC.false;
      segment = cc;
      in_file = omega arith;
      sizes = omega arith;
      low = omega arith;
      high = omega arith;
    } in
    let alone : list_any (share_a_byte c.args.header) c.args.self.now.segments.items ≡ false = cc in
    let few : length c.touch.new.pages.items ≤ max_program_pages = omega (arith, c.in_ok-touch.ensures.few) in
    fault_of_few c.args.bytes.now c.args.self.now.pages.items c.args.self.now.segments.items c.args.header passes c.requires.pages c.touch.new.pages.items c.in_ok-touch.ensures.listed few
    ∙ ap (λ b. cond b (Some Overlap) None) alone
