-- What a load makes of a file.
use Rattle.std.specs.Prelude.{ℕ, Bool, refl}
use Rattle.std.specs.FinMap as map
use Rattle.std.specs.Coded.{Coded, code_by, coded×, coded_ℕ, coded_bool}
use Rattle.elf_load.specs.declared.rights.Rights.{Rights}
use Rattle.elf_load.specs.Cells.{Cell, Cells}

-- the cells of the touched pages, the entry, the first break, and how many pages are touched
pub record ProgramImage : Type 0 where
  pub cells : Cells
  pub entry : ℕ
  pub start : ℕ
  pub pages : ℕ

-- how such values are stored, part by part
abbrev pub rights_code : Coded Rights
rights_code =
    code_by (Bool × (Bool × Bool)) (coded× coded_bool (coded× coded_bool coded_bool)) (λ r. (r.read, (r.write, r.execute))) (λ t. record { read = t.0; write = t.1.0; execute = t.1.1 }) (λ _. refl)

abbrev pub cell_code : Coded Cell
cell_code = code_by (ℕ × Rights) (coded× coded_ℕ rights_code) (λ c. (c.byte, c.rights)) (λ t. record { byte = t.0; rights = t.1 }) (λ _. refl)

abbrev pub program_image_code : Coded ProgramImage
program_image_code =
    code_by
    (Cells × (ℕ × (ℕ × ℕ)))
    (coded× (map.code coded_ℕ cell_code) (coded× coded_ℕ (coded× coded_ℕ coded_ℕ)))
    (λ i. (i.cells, (i.entry, (i.start, i.pages))))
    (λ t. record { cells = t.0; entry = t.1.0; start = t.1.1.0; pages = t.1.1.1 })
    (λ _. refl)
