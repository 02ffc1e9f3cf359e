use Rattle.std.proofs.Common.{◌≡◌, ◌<◌, ◌++◌, vec_len}
use Rattle.run_files.specs.inside.Shares.{lines_in}
use Rattle.run_files.proofs.log_text.shares_of.Given as goal

-- the shares and what is left are the lines
abbrev pub invariant-loop-rest : goal.invariant-loop-rest
invariant-loop-rest l = record {
  some : 0 < l.size;
  lines : lines_in l.shares.items ++ l.rest.items ≡ l.fn.lines.items;
}

abbrev pub decreases-loop-rest : goal.decreases-loop-rest
decreases-loop-rest l = vec_len l.rest
