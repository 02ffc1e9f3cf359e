-- The fields of boards, as contracts see them.
use Rattle.host_inbox.specs.declared.boards.Boards.TheInside.{Inside}
use Rattle.host_inbox.specs.CarrierViews.{BoardsView}
use Rattle.host_inbox.specs.Sizes.{IsSized}

module _ {T : Type 0} where
  abbrev pub boards_view : Inside T → BoardsView
  boards_view b = record { id = b.table.shared.table_id; hosts = b.size.hosts; seats = b.size.seats }

  abbrev pub IsSoundBoards : Inside T → Type 0
  IsSoundBoards b = IsSized b.table b.size
