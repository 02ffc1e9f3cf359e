use Rattle.std.proofs.Common.{◌≡◌, [], ◌∷◌, ◌++◌, List, sym, subst}
use Rattle.std.specs.Prelude.{OnOk}
use Rattle.file_calls.specs.declared.task.Output.{Output}
use Rattle.run_files.specs.Written.{written_in}
use Rattle.run_files.proofs.Writings.{one_more, wrote_nothing}
use Rattle.run_files.proofs.written.Written.push.Goals as goal

pub returns-then-is_empty : goal.returns-then-is_empty
returns-then-is_empty c =
    subst (λ (l : List Output). OnOk c.push_silent.result (written_in c.push_silent.new.self ≡ written_in c.args.self.now ++ l ∷ []))
    (sym (wrote_nothing c.args.outputs c.is_empty.result c.is_empty.ensures c.if-is_empty.true)) c.push_silent.ensures

pub returns : goal.returns
returns c = one_more c.args.self.now.hosts.items c.push.new.self.items _ c.in_ok-push.ensures.items
