use Rattle.std.specs.Prelude.{false, ◌||◌}
use Rattle.elf_load.specs.declared.rights.Rights.{Rights}

abbrev pub no_rights : Rights
no_rights = record { read = false; write = false; execute = false }

-- the rights of either
abbrev pub union : Rights → Rights → Rights
union r s = record { read = r.read || s.read; write = r.write || s.write; execute = r.execute || s.execute }
