-- The manifest, the seeds and the source texts of a generated portfolio, line by line.
use Rattle.std.specs.Prelude.{ℕ, List, [], ◌∷◌, ◌++◌, flat_map, codes}
use Rattle.y2k_base.specs.declared.text.Text.{Text}
use Rattle.y2k_base.specs.declared.text.TextRole.TheVariants.{Book, Program}

-- lines, each with a line feed at its end
abbrev pub text_of : List (List ℕ) → List ℕ
text_of lines = flat_map (λ (line : List ℕ). line ++ codes "\n") lines

abbrev pub manifest : List ℕ
manifest = text_of
    (codes "version = 1"
    ∷ codes "pivot = 50"
    ∷ codes "programs = [\"SELECTP.cbl\", \"REPORTP.cbl\"]"
    ∷ codes "seeds = \"seeds.csv\""
    ∷ codes "[copybooks]"
    ∷ codes "EMPREC = \"EMPREC.cpy\""
    ∷ codes "[files]"
    ∷ codes "EMPIN = \"empin.dat\""
    ∷ codes "EMPOUT = \"empout.dat\""
    ∷ codes "REPOUT = \"repout.dat\""
    ∷ codes "[jobs]"
    ∷ codes "NIGHT = [\"SELECTP\", \"REPORTP\"]"
    ∷ [])

-- the date of hire, as SELECTP reads it, begins with a year
abbrev pub seeds : List ℕ
seeds = text_of (codes "program,item,kind,digit" ∷ codes "SELECTP,HIRED OF IN-REC,year,1" ∷ [])

-- lines whose first word stands in column 8, and in column 12
abbrev pub in_area_a : List ℕ → List ℕ
in_area_a line = codes "       " ++ line

abbrev pub in_area_b : List ℕ → List ℕ
in_area_b line = codes "           " ++ line

abbrev pub employee_entries : List (List ℕ)
employee_entries =
    in_area_a (codes "01 EMP-REC.")
    ∷ in_area_b (codes "05 EMP-ID PIC 9(6).")
    ∷ in_area_b (codes "05 HIRED PIC 9(6).")
    ∷ in_area_b (codes "05 EMP-NAME PIC X(8).")
    ∷ []

abbrev pub line_entries : List (List ℕ)
line_entries =
    in_area_a (codes "01 LINE-REC.")
    ∷ in_area_b (codes "05 L-ID PIC Z(5)9.")
    ∷ in_area_b (codes "05 FILLER PIC X(2).")
    ∷ in_area_b (codes "05 L-DATE PIC 99/99/99.")
    ∷ []

-- the copybook of employees as it stands, and with another name for its record
abbrev pub copied : List (List ℕ)
copied = in_area_b (codes "COPY EMPREC.") ∷ []

abbrev pub copied_as : List ℕ → List (List ℕ)
copied_as name = in_area_b (codes "COPY EMPREC REPLACING ==EMP-REC== BY ==" ++ (name ++ codes "==.")) ∷ []

-- a program that reads a file to its end and writes another: its name, of each file the name and the entries of its record,
-- and what is done with a record that was read
pub record FileProgram : Type 0 where
  pub name : List ℕ
  pub from : List ℕ
  pub from_entries : List (List ℕ)
  pub to : List ℕ
  pub to_entries : List (List ℕ)
  pub pick : List (List ℕ)

abbrev pub opening_lines : FileProgram → List (List ℕ)
opening_lines c =
    in_area_a (codes "IDENTIFICATION DIVISION.")
    ∷ in_area_a (codes "PROGRAM-ID. " ++ (c.name ++ codes "."))
    ∷ in_area_a (codes "ENVIRONMENT DIVISION.")
    ∷ in_area_a (codes "INPUT-OUTPUT SECTION.")
    ∷ in_area_a (codes "FILE-CONTROL.")
    ∷ in_area_b (codes "SELECT " ++ (c.from ++ (codes " ASSIGN TO " ++ (c.from ++ codes "."))))
    ∷ in_area_b (codes "SELECT " ++ (c.to ++ (codes " ASSIGN TO " ++ (c.to ++ codes "."))))
    ∷ []

abbrev pub file_lines : List ℕ → List (List ℕ) → List (List ℕ)
file_lines name entries = in_area_a (codes "FD " ++ (name ++ codes ".")) ∷ entries

abbrev pub data_lines : FileProgram → List (List ℕ)
data_lines c =
    in_area_a (codes "DATA DIVISION.")
    ∷ in_area_a (codes "FILE SECTION.")
    ∷ (file_lines c.from c.from_entries ++ (file_lines c.to c.to_entries ++
    (in_area_a (codes "WORKING-STORAGE SECTION.")
    ∷ in_area_a (codes "01 DONE-FLAG PIC X VALUE \"N\".")
    ∷ [])))

abbrev pub procedure_lines : FileProgram → List (List ℕ)
procedure_lines c =
    in_area_a (codes "PROCEDURE DIVISION.")
    ∷ in_area_a (codes "MAIN-PARA.")
    ∷ in_area_b (codes "OPEN INPUT " ++ (c.from ++ (codes " OUTPUT " ++ (c.to ++ codes "."))))
    ∷ in_area_b (codes "PERFORM READ-PARA UNTIL DONE-FLAG = \"Y\".")
    ∷ in_area_b (codes "CLOSE " ++ (c.from ++ (codes " " ++ (c.to ++ codes "."))))
    ∷ in_area_b (codes "STOP RUN.")
    ∷ in_area_a (codes "READ-PARA.")
    ∷ in_area_b (codes "READ " ++ (c.from ++ codes " AT END MOVE \"Y\" TO DONE-FLAG"))
    ∷ in_area_b (codes "  NOT AT END PERFORM PICK-PARA END-READ.")
    ∷ in_area_a (codes "PICK-PARA.")
    ∷ c.pick

abbrev pub program_text : FileProgram → List ℕ
program_text c = text_of (opening_lines c ++ (data_lines c ++ procedure_lines c))

-- the program that selects the employees who were hired before 1980, and the one that prints them
abbrev pub selecting : FileProgram
selecting = record {
  name = codes "SELECTP";
  from = codes "EMPIN";
  from_entries = copied_as (codes "IN-REC");
  to = codes "EMPOUT";
  to_entries = copied_as (codes "OUT-REC");
  pick =
      in_area_b (codes "IF HIRED OF IN-REC < 800101")
      ∷ in_area_b (codes "  MOVE IN-REC TO OUT-REC WRITE OUT-REC END-IF.")
      ∷ [];
}

abbrev pub reporting : FileProgram
reporting = record {
  name = codes "REPORTP";
  from = codes "EMPOUT";
  from_entries = copied;
  to = codes "REPOUT";
  to_entries = line_entries;
  pick = in_area_b (codes "MOVE EMP-ID TO L-ID MOVE HIRED TO L-DATE WRITE LINE-REC.") ∷ [];
}

abbrev pub employee_book : Text
employee_book = record { name = codes "EMPREC.cpy"; key = codes "EMPREC"; role = Book; bytes = text_of employee_entries }

abbrev pub selecting_program : Text
selecting_program = record { name = codes "SELECTP.cbl"; key = []; role = Program; bytes = program_text selecting }

abbrev pub reporting_program : Text
reporting_program = record { name = codes "REPORTP.cbl"; key = []; role = Program; bytes = program_text reporting }

-- the copybook comes before the programs
abbrev pub source_texts : List Text
source_texts = employee_book ∷ selecting_program ∷ reporting_program ∷ []
