-- Values from outside: the RISC-V unprivileged manual, and the programs of riscv-tests.
use Rattle.std.proofs.Common.{◌≡◌, ℕ, Some, None, [], ◌∷◌, ap, refl, lit≤}
use Rattle.std.specs.Option.{option_map}
use Rattle.guest_mem.specs.Memory.{Memory, load}
use Rattle.guest_mem.specs.declared.right.Right.TheVariants as right
use Rattle.rv32_machine.specs.Word.{i_immediate, s_immediate, b_immediate, u_immediate, j_immediate, sign_extended}
use Rattle.rv32_machine.specs.Arithmetic.{value, modified}
use Rattle.rv32_machine.specs.Encoding.{decoded}
use Rattle.rv32_machine.specs.Table.{State, state, effect, goes_on, at, traps, loaded}
use Rattle.rv32_machine.specs.Turn.{turn, state_after, outcome_of, GoesOn}
use Rattle.rv32_machine.proofs.TurnLaws.{call_in_time, spent_without}
use Rattle.sim_base.specs.declared.signal.Signal.TheVariants.{SigBus}
use Rattle.rv32_machine.specs.declared.instruction.Load.TheVariants.{Lb}
use Rattle.rv32_machine.specs.declared.outcome.Outcome.TheVariants as outcome
use Rattle.rv32_machine.specs.declared.outcome.TurnEnd.TheVariants as end
use Rattle.rv32_machine.specs.declared.instruction.Insn.TheVariants as insn
use Rattle.rv32_machine.specs.declared.instruction.Amo.TheVariants.{AmoAdd, AmoMin, AmoMax, AmoMinu, AmoMaxu}
use Rattle.rv32_machine.specs.declared.instruction.Operation.TheVariants.{Sub, Sll, Slt, Sltu, Sra, Mul, Mulh, Mulhsu, Mulhu, Div, Divu, Rem, Remu}

-- ---- division: -2 ^ 31 by -1, and by zero

div_overflow : value Div 0x80000000 0xffffffff ≡ 0x80000000
div_overflow = refl

rem_overflow : value Rem 0x80000000 0xffffffff ≡ 0
rem_overflow = refl

div_by_zero : value Div 0x80000000 0 ≡ 0xffffffff
div_by_zero = refl

rem_by_zero : value Rem 0x80000000 0 ≡ 0x80000000
rem_by_zero = refl

divu_by_zero : value Divu 20 0 ≡ 0xffffffff
divu_by_zero = refl

remu_by_zero : value Remu 20 0 ≡ 20
remu_by_zero = refl

-- towards zero: -20 by 6 is -3, and leaves -2
div_negative : value Div 0xffffffec 6 ≡ 0xfffffffd
div_negative = refl

rem_negative : value Rem 0xffffffec 6 ≡ 0xfffffffe
rem_negative = refl

divu_large : value Divu 0xffffffec 6 ≡ 715827879
divu_large = refl

-- ---- the upper words of products

mulh_least : value Mulh 0x80000000 0x80000000 ≡ 0x40000000
mulh_least = refl

mulh_ones : value Mulh 0xffffffff 0xffffffff ≡ 0
mulh_ones = refl

mulh_signs : value Mulh 0xffffffff 1 ≡ 0xffffffff
mulh_signs = refl

mulh_mixed : value Mulh 0xaaaaaaab 0x0002fe7d ≡ 0xffff0081
mulh_mixed = refl

mulhsu_least : value Mulhsu 0x80000000 0xffffffff ≡ 0x80000000
mulhsu_least = refl

mulhsu_ones : value Mulhsu 0xffffffff 0xffffffff ≡ 0xffffffff
mulhsu_ones = refl

mulhsu_one : value Mulhsu 1 0xffffffff ≡ 0
mulhsu_one = refl

mulhsu_mixed : value Mulhsu 0x0002fe7d 0xaaaaaaab ≡ 0x0001fefe
mulhsu_mixed = refl

mulhu_ones : value Mulhu 0xffffffff 0xffffffff ≡ 0xfffffffe
mulhu_ones = refl

mulhu_mixed : value Mulhu 0xaaaaaaab 0x0002fe7d ≡ 0x0001fefe
mulhu_mixed = refl

mul_ones : value Mul 0xffffffff 0xffffffff ≡ 1
mul_ones = refl

-- ---- sums, shifts and comparisons

sub_wraps : value Sub 0 1 ≡ 0xffffffff
sub_wraps = refl

sub_same : value Sub 5 5 ≡ 0
sub_same = refl

-- SRAI by 31: its immediate has bit 10 set
srai : value Sra 0x80000000 0x41f ≡ 0xffffffff
srai = refl

sra_positive : value Sra 0x7fffffff 31 ≡ 0
sra_positive = refl

-- a shift by 33 is one by 1
sll_by_33 : value Sll 0x80000001 33 ≡ 2
sll_by_33 = refl

slt_signs : value Slt 0x80000000 0x7fffffff ≡ 1
slt_signs = refl

sltu_signs : value Sltu 0x80000000 0x7fffffff ≡ 0
sltu_signs = refl

-- ---- immediates at their ends

i_greatest : i_immediate 0x7ff00013 ≡ 2047
i_greatest = refl

i_least : i_immediate 0x80000013 ≡ 0xfffff800
i_least = refl

s_greatest : s_immediate 0x7e000fa3 ≡ 2047
s_greatest = refl

s_least : s_immediate 0x80000023 ≡ 0xfffff800
s_least = refl

b_greatest : b_immediate 0x7e000fe3 ≡ 4094
b_greatest = refl

b_least : b_immediate 0x80000063 ≡ 0xfffff000
b_least = refl

u_greatest : u_immediate 0xfffff037 ≡ 0xfffff000
u_greatest = refl

u_least : u_immediate 0x00000fb7 ≡ 0
u_least = refl

j_greatest : j_immediate 0x7ffff06f ≡ 1048574
j_greatest = refl

j_least : j_immediate 0x8000006f ≡ 0xfff00000
j_least = refl

-- LB of 0x80 and LH of 0x8000
lb_sign : sign_extended 8 0x80 ≡ 0xffffff80
lb_sign = refl

lh_sign : sign_extended 16 0x8000 ≡ 0xffff8000
lh_sign = refl

-- ---- words

-- the four bytes 73 00 00 00
ecall : decoded 0x00000073 ≡ Some insn.Ecall
ecall = refl

ebreak : decoded 0x00100073 ≡ Some insn.Ebreak
ebreak = refl

-- ECALL with a register in it
ecall_other : decoded 0x000000f3 ≡ None
ecall_other = refl

-- SRAI x1, x1, 31
srai_word : decoded 0x41f0d093 ≡ Some (insn.Immediate Sra)
srai_word = refl

-- a shift whose amount has a sixth bit
slli_amount : decoded 0x02009093 ≡ None
slli_amount = refl

-- REMU x3, x1, x2 and SUB x3, x1, x2
remu_word : decoded 0x0220f1b3 ≡ Some (insn.Register Remu)
remu_word = refl

sub_word : decoded 0x402081b3 ≡ Some (insn.Register Sub)
sub_word = refl

-- FENCE, also with its fields filled
fence_word : decoded 0x0ff0000f ≡ Some insn.Fence
fence_word = refl

zero_word : decoded 0x00000000 ≡ None
zero_word = refl

ones_word : decoded 0xffffffff ≡ None
ones_word = refl

-- LR.W x11, (x10), with another register in it, and with the bits aq and rl
lr_word : decoded 0x100525af ≡ Some insn.LrW
lr_word = refl

lr_other : decoded 0x101525af ≡ None
lr_other = refl

lr_ordered : decoded 0x160525af ≡ Some insn.LrW
lr_ordered = refl

-- SC.W x12, x13, (x10)
sc_word : decoded 0x18d5262f ≡ Some insn.ScW
sc_word = refl

-- AMOMIN.W x11, x13, (x10), and as AMOMIN.D would be
amomin_word : decoded 0x80d525af ≡ Some (insn.Amo AmoMin)
amomin_word = refl

amomin_double : decoded 0x80d535af ≡ None
amomin_double = refl

-- ---- the atomic memory operations

amomin_signs : modified AmoMin 0xffffffff 1 ≡ 0xffffffff
amomin_signs = refl

amominu_signs : modified AmoMinu 0xffffffff 1 ≡ 1
amominu_signs = refl

amomax_signs : modified AmoMax 0xffffffff 1 ≡ 1
amomax_signs = refl

amomaxu_signs : modified AmoMaxu 0xffffffff 1 ≡ 0xffffffff
amomaxu_signs = refl

amoadd_wraps : modified AmoAdd 0xffffffff 2 ≡ 1
amoadd_wraps = refl

-- ---- jumps: JALR x0, 0(x1), where only registers 0 and 1 are of interest

with_x1 : ℕ → Memory → State
with_x1 n m = state (record { pc = 0x10000; x = 0 ∷ n ∷ []; reservation = None }) m

-- bit 0 is cleared
jalr_odd : (m : Memory) → effect insn.Jalr 0x00008067 (with_x1 0x12345 m) ≡ goes_on (at 0x12344 (with_x1 0x12345 m).cpu) (with_x1 0x12345 m)
unfolding with_x1
jalr_odd m = refl

jalr_half : (m : Memory) → effect insn.Jalr 0x00008067 (with_x1 0x10002 m) ≡ traps SigBus (with_x1 0x10002 m)
unfolding with_x1
jalr_half m = refl

-- LB of the byte 0x80
lb : (m : Memory) (address : ℕ) → load right.Read 1 m address ≡ Some 0x80 → loaded Lb m address ≡ Some 0xffffff80
lb m address is = ap (option_map (sign_extended 8)) is

-- ---- turns of the usual budget

-- the last instruction of the budget is the call
call_at_the_end : (s : State) → GoesOn 9999999 s → outcome_of 10000000 s ≡ outcome.Call →
    turn 10000000 s ≡ record { state = state_after 10000000 s; end = end.Call; ran = 10000000 }
call_at_the_end s = call_in_time 10000000 s (lit≤ tt)

-- there is one more instruction before the call
one_too_many : (s : State) → GoesOn 10000000 s → outcome_of 10000001 s ≡ outcome.Call →
    turn 10000000 s ≡ record { state = state_after 10000000 s; end = end.Spent; ran = 10000000 }
one_too_many s on _ = spent_without 10000000 s on
