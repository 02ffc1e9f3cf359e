use Rattle.std.proofs.Common.{true, refl}
use Rattle.run_streams.proofs.Homes.{run_homed}
use Rattle.run_streams.proofs.Lines.{line_holds}
use Rattle.run_streams.proofs.lines_hold.Goals as goal

pub returns-clause-most : goal.returns-clause-most
returns-clause-most c =
    λ net rows w s n m ended are reached there told. (line_holds net rows w are reached (run_homed net rows are w reached) s n m ended there told).most

pub returns-clause-whole : goal.returns-clause-whole
returns-clause-whole c =
    λ net rows w s n m are reached there told. (line_holds net rows w are reached (run_homed net rows are w reached) s n m true there told).whole refl
