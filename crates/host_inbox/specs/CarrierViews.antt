-- What contracts see of boards and of their carriers.
use Rattle.std.specs.Prelude.{◌≡◌, ℕ, List, [], length, All}
use Rattle.atomic_table.specs.Seated.{TableId}
use Rattle.host_inbox.specs.declared.entry.Entry.{Entry}

-- Which boards they are, of how many hosts, and how many carriers they have.
pub record BoardsView : Type 0 where
  pub id : TableId
  pub hosts : ℕ
  pub seats : ℕ

-- Which boards the carrier is of, and the entries of its puts, in the order in which it made them.
pub record CarrierView (T : Type 0) : Type 0 where
  pub boards : TableId
  pub entries : List (Entry T)

module _ {T : Type 0} where
  -- all carriers of the boards: a carrier can't be copied, so as many of them as there are seats are all
  pub record AreAllOf (boards : BoardsView) (carriers : List (CarrierView T)) : Type 0 where
    pub theirs : All (λ carrier. carrier.boards ≡ boards.id) carriers
    pub count : length carriers ≡ boards.seats

  -- boards of so many hosts, with all their carriers, none of which has made a put
  pub record AreOpen (hosts seats : ℕ) (boards : BoardsView) (carriers : List (CarrierView T)) : Type 0 where
    pub hosts_are : boards.hosts ≡ hosts
    pub seats_are : boards.seats ≡ seats
    pub carriers_are : AreAllOf boards carriers
    pub no_entries : All (λ carrier. carrier.entries ≡ []) carriers
