-- The register file as the fields that a record stores, and back: each queue as eight places and a count.
use Rattle.std.specs.Prelude.{ℕ, List, [], ◌∷◌, length, get_or, take}
use Rattle.registers.specs.Model.{Model}
use Rattle.registers.specs.declared.fields.Fields.{Fields}

-- The words in a queue as its eight places, oldest word first; 0 after the last word.
unfoldable pub places : List ℕ → List ℕ
places ws = get_or ws 0 0 ∷ get_or ws 1 0 ∷ get_or ws 2 0 ∷ get_or ws 3 0 ∷ get_or ws 4 0 ∷ get_or ws 5 0 ∷ get_or ws 6 0 ∷ get_or ws 7 0 ∷ []

-- The fields of a register file: each queue as its eight places and the number of its words.
unfoldable pub fields_of : Model → Fields
fields_of m =
    record {
      control = m.control;
      masks = m.masks;
      timeout = m.timeout;
      ror = m.ror;
      tx = places m.tx;
      waiting = length m.tx;
      rx = places m.rx;
      held = length m.rx;
    }

-- The register file of these fields: each queue holds its first places, as many as its count says.
unfoldable pub restored : Fields → Model
restored f =
    record {
      control = f.control;
      masks = f.masks;
      timeout = f.timeout;
      ror = f.ror;
      tx = take f.waiting f.tx;
      rx = take f.held f.rx;
    }
