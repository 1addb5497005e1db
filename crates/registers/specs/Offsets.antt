-- Which register an offset names.
use Rattle.std.specs.Prelude.{ℕ, ◌-◌, ◌/◌, ◌%◌, List, [], ◌∷◌, get_or, ltb, eqb}
use Rattle.registers.specs.Choose.{pick}
use Rattle.registers.specs.declared.offsets.Register.{Register}
use Rattle.registers.specs.declared.offsets.Register.TheVariants.{Cr0, Cr1, Dr, Sr, Cpsr, Imsc, Ris, Mis, Icr, Dmacr, Identity, Reserved, Outside}

-- The table of offsets. Other multiples of 4 below 0x1000 are reserved; all other offsets are outside.
unfoldable pub register_of : ℕ → Register
register_of o =
    pick (eqb (o % 4) 0)
    (pick (eqb o 0x00) Cr0
    (pick (eqb o 0x04) Cr1
    (pick (eqb o 0x08) Dr
    (pick (eqb o 0x0C) Sr
    (pick (eqb o 0x10) Cpsr
    (pick (eqb o 0x14) Imsc
    (pick (eqb o 0x18) Ris
    (pick (eqb o 0x1C) Mis
    (pick (eqb o 0x20) Icr
    (pick (eqb o 0x24) Dmacr
    (pick (ltb o 0xFE0) Reserved
    (pick (ltb o 0x1000) (Identity ((o - 0xFE0) / 4)) Outside))))))))))))
    Outside

-- The words of the identity registers, from 0xFE0 on.
abbrev pub identity_words : List ℕ
identity_words = 0x22 ∷ 0x10 ∷ 0x34 ∷ 0x00 ∷ 0x0D ∷ 0xF0 ∷ 0x05 ∷ 0xB1 ∷ []

-- The word of identity register i; register 0 is at 0xFE0.
abbrev pub identity_of : ℕ → ℕ
identity_of i = get_or identity_words i 0
