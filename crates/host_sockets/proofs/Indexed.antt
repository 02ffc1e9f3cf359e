-- an index goes on finding what it found
use Rattle.std.proofs.Common.{◌≡◌, ◌≢◌, ℕ, zero, suc, List, [], ◌∷◌, ◌++◌, length, set, Some, slice_get, refl, sym, ap, ◌∙◌, arith}
use Rattle.std.proofs.lemmas.List.{length-set, length-append}
use Rattle.host_sockets.specs.declared.given.Given.{Given}
use Rattle.host_sockets.specs.declared.index.Index.{Index}
use Rattle.host_sockets.specs.declared.room.Room.{Room}
use Rattle.host_sockets.specs.declared.tables.Tables.{Tables}
use Rattle.host_sockets.specs.declared.tcp_sock.TcpSock.{TcpSock}
use Rattle.host_sockets.specs.inside.Indexing.{Indexes, FindsAll, FindsOthers, KnowsAll, KnowsOthers, CountsAll, CountsOthers}

-- the sockets at other places stay
other_set : (socks : List TcpSock) (k j : ℕ) (new c : TcpSock) → j ≢ k → slice_get (set socks k new) j ≡ Some c → slice_get socks j ≡ Some c
other_set [] k j new c apart e = e
other_set (x ∷ socks) zero zero new c apart e = absurd (apart refl)
other_set (x ∷ socks) zero (suc j) new c apart e = e
other_set (x ∷ socks) (suc k) zero new c apart e = e
other_set (x ∷ socks) (suc k) (suc j) new c apart e = other_set socks k j new c (λ same. apart (ap suc same)) e

other_push : (socks : List TcpSock) (j : ℕ) (new c : TcpSock) → j ≢ length socks → slice_get (socks ++ new ∷ []) j ≡ Some c → slice_get socks j ≡ Some c
other_push [] zero new c apart e = absurd (apart refl)
other_push [] (suc j) new c apart e = e
other_push (x ∷ socks) zero new c apart e = e
other_push (x ∷ socks) (suc j) new c apart e = other_push socks j new c (λ same. apart (ap suc same)) e

-- the socket that acts may change
pub indexed_set : (i : Index) (k : ℕ) (socks : List TcpSock) (new : TcpSock) → i.last ≡ k → Indexes i socks → Indexes i (set socks k new)
indexed_set i k socks new acts h = record {
  tables = λ t is. record {
    records = λ j c s ends apart at stands live. (h.tables t is).records j c s ends apart (other_set socks k j new c (λ same. apart (same ∙ sym acts)) at) stands live;
    listeners = λ j c s apart at stands listens. (h.tables t is).listeners j c s apart (other_set socks k j new c (λ same. apart (same ∙ sym acts)) at) stands listens;
  };
  room = λ r is j c s apart at stands. h.room r is j c s apart (other_set socks k j new c (λ same. apart (same ∙ sym acts)) at) stands;
  given = λ g is. record {
    entries = λ j c s apart at stands. (h.given g is).entries j c s apart (other_set socks k j new c (λ same. apart (same ∙ sym acts)) at) stands;
    counts = (h.given g is).counts;
    within = let few = (h.given g is).within in let long = length-set socks k new in omega arith;
  };
}

pub indexed_push : (i : Index) (socks : List TcpSock) (new : TcpSock) → i.last ≡ length socks → Indexes i socks → Indexes i (socks ++ new ∷ [])
indexed_push i socks new acts h = record {
  tables = λ t is. record {
    records = λ j c s ends apart at stands live. (h.tables t is).records j c s ends apart (other_push socks j new c (λ same. apart (same ∙ sym acts)) at) stands live;
    listeners = λ j c s apart at stands listens. (h.tables t is).listeners j c s apart (other_push socks j new c (λ same. apart (same ∙ sym acts)) at) stands listens;
  };
  room = λ r is j c s apart at stands. h.room r is j c s apart (other_push socks j new c (λ same. apart (same ∙ sym acts)) at) stands;
  given = λ g is. record {
    entries = λ j c s apart at stands. (h.given g is).entries j c s apart (other_push socks j new c (λ same. apart (same ∙ sym acts)) at) stands;
    counts = (h.given g is).counts;
    within = let few = (h.given g is).within in let long = length-append socks (new ∷ []) in omega arith;
  };
}

pub others_of_all : (last : ℕ) (t : Tables) (socks : List TcpSock) → FindsAll t socks → FindsOthers last t socks
others_of_all last t socks h = record {
  records = λ j c s ends apart at stands live. h.records j c s ends tt at stands live;
  listeners = λ j c s apart at stands listens. h.listeners j c s tt at stands listens;
}

pub others_known : (last : ℕ) (r : Room) (socks : List TcpSock) → KnowsAll r socks → KnowsOthers last r socks
others_known last r socks h = λ j c s apart at stands. h j c s tt at stands

pub others_counted : (last : ℕ) (g : Given) (socks : List TcpSock) → CountsAll g socks → CountsOthers last g socks
others_counted last g socks h = record {
  entries = λ j c s apart at stands. h.entries j c s tt at stands;
  counts = h.counts;
  within = h.within;
}
