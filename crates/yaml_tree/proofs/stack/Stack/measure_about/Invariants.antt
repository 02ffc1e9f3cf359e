use Rattle.std.proofs.Common.{◌≡◌, map, reverse}
use Rattle.std.specs.Iterator.Adapters.{rev_source}
use Rattle.std.specs.Slice.Iter.{iter_rest}
use Rattle.yaml_tree.specs.inside.Stack.{measure_about}
use Rattle.yaml_tree.specs.inside.Frames.{open_of}
use Rattle.yaml_tree.proofs.stack.Stack.measure_about.Given as goal

-- what is left gives the whole
abbrev pub invariant-loop-frame : goal.invariant-loop-frame
invariant-loop-frame l = measure_about (reverse (map open_of (iter_rest (rev_source l.frame-iterator)))) l.measure ≡ measure_about l.self l.fn.value
