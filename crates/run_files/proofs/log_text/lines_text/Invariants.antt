use Rattle.std.proofs.Common.{◌≡◌, ◌++◌, map}
use Rattle.std.specs.Prelude.{flat_map}
use Rattle.std.specs.Vec.Iter.{into_iter_items}
use Rattle.out_text.specs.Log.{log_line}
use Rattle.run_files.specs.Grown.{told_line}
use Rattle.run_files.specs.Listed.{said}
use Rattle.host_link.specs.Logs.{kept_lines}
use Rattle.run_files.proofs.log_text.lines_text.Given as goal

-- what is left completes the whole
abbrev pub invariant-loop-line : goal.invariant-loop-line
invariant-loop-line l = l.text ++ flat_map log_line (map (told_line (map said l.hosts)) (kept_lines (into_iter_items l.line-iterator)))
    ≡ flat_map log_line (map (told_line (map said l.hosts)) (kept_lines l.fn.lines.items))
