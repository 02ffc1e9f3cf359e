-- Addresses as they are written: four decimal numbers, and a port behind a colon (RFC 3986, sections 3.2.2 and 3.2.3).
use Rattle.std.specs.Prelude.{ℕ, ◌/◌, ◌%◌, ◌^◌, List, ◌++◌, codes}
use Rattle.std.specs.Fmt.{decimal}
use Rattle.sim_base.specs.declared.address.Addr.{Addr}
use Rattle.sim_base.specs.declared.address.Ip.{Ip}

-- a.b.c.d, the highest byte first
abbrev pub ip_text : Ip → List ℕ
ip_text ip = decimal (ip.bits / 2 ^ 24) ++ (codes "." ++ (decimal (ip.bits / 2 ^ 16 % 256)
    ++ (codes "." ++ (decimal (ip.bits / 2 ^ 8 % 256) ++ (codes "." ++ decimal (ip.bits % 256))))))

-- a.b.c.d:port
abbrev pub addr_text : Addr → List ℕ
addr_text addr = ip_text addr.ip ++ (codes ":" ++ decimal addr.port)
