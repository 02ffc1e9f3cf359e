use Rattle.std.proofs.Common.{string_bytes}
use Rattle.memory_outside.proofs.FilesLemmas.{files_of_with_file}
use Rattle.memory_outside.proofs.source.MemSource.add.Goals as goal

pub returns-clause-ok : goal.returns-clause-ok
returns-clause-ok c =
    files_of_with_file (string_bytes c.args.name) c.args.self.now.files c.insert.new.self c.args.bytes c.in_ok-insert.ensures.updates
