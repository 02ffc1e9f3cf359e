use Rattle.std.proofs.Common.{◌≡◌, ◌≤◌, ◌<◌, ◌+◌, ◌*◌, ◌∙◌, ap, arith, refl}
use Rattle.std.proofs.lemmas.Result.{err_from_is_err_and}
use Rattle.elf_load.specs.Elf.{elf_header, program_header}
use Rattle.elf_load.proofs.Checks.{IsSound_empty, refused_here, passed_here, segments_here, fault_at_end, segments_at_end}
use Rattle.elf_load.proofs.layout.Layout.read.Goals as goal
use Rattle.elf_load.specs.Standard.{program_header_size}

pub loop-index-init : goal.loop-index-init
loop-index-init c = record {
  sound = IsSound_empty c.args.bytes.now (record { segments = c.new.result; pages = c.new-2.result }) c.new.ensures.items c.new-2.ensures.items c.new-2.ensures.len;
  segments = c.new.ensures.items;
  left = refl;
}

pub returns-in_err-add-clause-refused : goal.returns-in_err-add-clause-refused
returns-in_err-add-clause-refused c =
    let within : c.loop-index.index < (elf_header c.args.bytes.now).count = omega (arith, ap (λ h. h.count) c.requires.header) in
    let parsed : c.parse.result ≡ program_header c.args.bytes.now ((elf_header c.args.bytes.now).table + program_header_size * c.loop-index.index) =
    c.parse.ensures ∙ ap (λ h. program_header c.args.bytes.now (h.table + program_header_size * c.loop-index.index)) c.requires.header in
    let p = err_from_is_err_and c.from_residual.result c.from_residual.ensures.1 in
    rw (p.1, p.2) (refused_here c.args.bytes.now c.loop-index.index c.loop-index.layout.segments.items c.parse.result within c.loop-index.invariant.segments parsed c.loop-index.invariant.left _ c.in_err-add.ensures.refused)

pub loop-index-preserved : goal.loop-index-preserved
loop-index-preserved c =
    let within : c.loop-index.index < (elf_header c.args.bytes.now).count = omega (arith, ap (λ h. h.count) c.requires.header) in
    let parsed : c.parse.result ≡ program_header c.args.bytes.now ((elf_header c.args.bytes.now).table + program_header_size * c.loop-index.index) =
    c.parse.ensures ∙ ap (λ h. program_header c.args.bytes.now (h.table + program_header_size * c.loop-index.index)) c.requires.header in
    record {
      sound = c.in_ok-add.ensures.sound;
      segments = segments_here c.args.bytes.now c.loop-index.index c.loop-index.layout.segments.items c.parse.result within c.loop-index.invariant.segments parsed c.loop-index.invariant.left c.add.new.self.segments.items c.in_ok-add.ensures.segments;
      left = passed_here c.args.bytes.now c.loop-index.index c.loop-index.layout.segments.items c.parse.result within c.loop-index.invariant.segments parsed c.loop-index.invariant.left c.in_ok-add.ensures.checked;
    }

pub returns-clause-segments : goal.returns-clause-segments
returns-clause-segments c =
    let past : (elf_header c.args.bytes.now).count ≤ c.loop-index.index = omega (arith, ap (λ h. h.count) c.requires.header) in
    c.loop-index.invariant.segments ∙ segments_at_end c.args.bytes.now c.loop-index.index past

pub returns-clause-checked : goal.returns-clause-checked
returns-clause-checked c =
    let past : (elf_header c.args.bytes.now).count ≤ c.loop-index.index = omega (arith, ap (λ h. h.count) c.requires.header) in
    c.loop-index.invariant.left ∙ fault_at_end c.args.bytes.now c.loop-index.index past
