-- What became of the bytes of connections (this project's own profile): one line for each direction in which an end could write.
use Rattle.std.specs.Prelude.{ℕ, List, [], ◌∷◌, ◌++◌, Bool, if◌then◌else◌, codes}
use Rattle.std.specs.Fmt.{decimal}
use Rattle.std.specs.List.{join_with_byte}
use Rattle.sim_base.specs.Ascii.{space}
use Rattle.out_text.specs.Address.{addr_text}
use Rattle.out_text.specs.declared.streams.Fate.{Fate}
use Rattle.out_text.specs.declared.streams.Fate.TheVariants.{Counted, Reused, Long}
use Rattle.out_text.specs.declared.streams.Stream.{Stream}

-- whether the reader saw the end
abbrev pub end_word : Bool → List ℕ
end_word end = if end then codes "end" else codes "open"

-- written N read M end, or open; or why nothing is told
abbrev pub fate_text : Fate → List ℕ
fate_text (Counted written read end) = join_with_byte space (codes "written" ∷ decimal written ∷ codes "read" ∷ decimal read ∷ end_word end ∷ [])
fate_text Reused = codes "reused"
fate_text Long = codes "long"

-- stream HOST A:P B:Q, the writing end before the reading one, and what became of it
abbrev pub stream_line : List ℕ → Stream → List ℕ
stream_line host s = join_with_byte space (codes "stream" ∷ host ∷ addr_text s.own ∷ addr_text s.peer ∷ fate_text s.fate ∷ []) ++ codes "\n"
