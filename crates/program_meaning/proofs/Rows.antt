-- Worked runs, computed.
use Rattle.std.proofs.Common.{◌≡◌, ℕ, true, false, List, [], ◌∷◌, Option, Some, None, refl}
use Rattle.std.specs.Prelude.{map, pos, neg_ℤ}
use Rattle.program_meaning.specs.Number.{NumForm, Display, Packed, Binary, Trailing, number_in, number_bytes, spelled}
use Rattle.program_meaning.specs.Moves.{edited}
use Rattle.program_meaning.specs.Kind as kind
use Rattle.program_meaning.specs.Kind.{symbol_of}
use Rattle.program_meaning.specs.Answer.{Zero, Data, Range, File}
use Rattle.program_meaning.specs.Tree.{Name, Place, Literal, At, Number, Text, One, Add, Div, Relation, Equal, Nil, Phrase, Absent, Present, Through, Times, Until, Form, Move, Compute, Stop, Nothing, Perform, Open, Read, Input}
use Rattle.program_meaning.specs.Layout.{Layout, Item}
use Rattle.program_meaning.specs.State.{Program}
use Rattle.program_meaning.specs.Files.{Disk, Closed}
use Rattle.program_meaning.specs.Job.{JobState, Over, End, Ended, Failed, job_after, ends_of}
use Rattle.program_meaning.specs.Job as job
use Rattle.program_meaning.proofs.Examples.{unsigned, signed, text_item, number_item, place, cut_place, at_place, whole_number, stated, numbered, paragraph, some_day, area_after}

abbrev n_name : Name
n_name = 78 ∷ []

abbrev x_name : Name
x_name = 88 ∷ []

-- N of 9(2) with VALUE 99, and one statement
abbrev counting : List Form → Program
counting fs =
    record { paragraphs = paragraph [] 0 fs ∷ []; layout = record { areas = 2 ∷ []; items = number_item n_name 0 2 (Some (whole_number 99)) ∷ []; conds = [] }; channels = [] }

abbrev one_more : Phrase → Form
one_more size = Compute (place n_name) false (Add (One (whole_number 1)) (One (at_place n_name))) None size

-- ADD 1 TO N leaves 00
pub add_cuts : area_after 0 1 (counting (one_more Absent ∷ [])) [] ≡ 48 ∷ 48 ∷ []
add_cuts = refl

-- with ON SIZE ERROR it leaves 99 and runs that list
pub add_size : area_after 0 1 (counting (one_more (Present (numbered 7 (Stop ∷ [])) Nil) ∷ [])) [] ≡ 57 ∷ 57 ∷ []
add_size = refl

-- MOVE X (1:3) TO X (2:3)
abbrev shifting : Program
shifting =
    record { paragraphs = paragraph [] 0 (Move (At (cut_place x_name 1 3)) (cut_place x_name 2 3) ∷ []) ∷ []; layout = record { areas = 4 ∷ []; items = text_item x_name 0 4 (Some (Text (65 ∷ 66 ∷ 67 ∷ 68 ∷ []))) ∷ []; conds = [] }; channels = [] }

pub shift : area_after 0 1 shifting [] ≡ 65 ∷ 65 ∷ 66 ∷ 67 ∷ []
shift = refl

-- PERFORM P 3 TIMES. STOP RUN. P. CONTINUE.
abbrev p_name : Name
p_name = 80 ∷ []

abbrev three_turns : Program
three_turns =
    record { paragraphs = paragraph [] 0 (Perform (Through p_name p_name) (Times (whole_number 3)) ∷ Stop ∷ []) ∷ paragraph p_name 2 (Nothing ∷ []) ∷ []; layout = record { areas = []; items = []; conds = [] }; channels = [] }

pub seven_steps : ends_of (job_after some_day (three_turns ∷ []) [] 7) ≡ Ended ∷ []
seven_steps = refl

pub six_steps : ends_of (job_after some_day (three_turns ∷ []) [] 6) ≡ job.Open ∷ []
six_steps = refl

-- PERFORM CONTINUE-PARA UNTIL X = 1, where X stays 0, is running after 1000 steps
abbrev waiting : Program
waiting =
    record {
      paragraphs = paragraph [] 0 (Perform (Through p_name p_name) (Until false (Relation (One (at_place x_name)) Equal (One (Number (pos 1) 0 1))) None) ∷ []) ∷ paragraph p_name 1 (Nothing ∷ []) ∷ [];
      layout = record { areas = 1 ∷ []; items = number_item x_name 0 1 (Some (Number (pos 0) 0 1)) ∷ []; conds = [] };
      channels = [];
    }

pub still_waiting : ends_of (job_after some_day (waiting ∷ []) [] 1000) ≡ job.Open ∷ []
still_waiting = refl

-- ADD 1 TO N where N holds spaces
abbrev spaces : Program
spaces =
    record { paragraphs = paragraph [] 0 (one_more Absent ∷ []) ∷ []; layout = record { areas = 2 ∷ []; items = number_item n_name 0 2 None ∷ []; conds = [] }; channels = [] }

pub no_number : ends_of (job_after some_day (spaces ∷ []) [] 10) ≡ Failed Data (stated 0) ∷ []
no_number = refl

-- DIVIDE 1 BY N GIVING N with N holding 00
abbrev dividing : Phrase → Program
dividing size =
    record { paragraphs = paragraph [] 0 (Compute (place n_name) false (Div (One (whole_number 1)) (One (at_place n_name))) None size ∷ []) ∷ []; layout = record { areas = 2 ∷ []; items = number_item n_name 0 2 (Some (whole_number 0)) ∷ []; conds = [] }; channels = [] }

pub by_zero : ends_of (job_after some_day (dividing Absent ∷ []) [] 10) ≡ Failed Zero (stated 0) ∷ []
by_zero = refl

pub zero_size : ends_of (job_after some_day (dividing (Present Nil Nil) ∷ []) [] 10) ≡ Ended ∷ []
zero_size = refl

-- a subscript 4 into OCCURS 3, and one of 3
abbrev table : Item
table =
    record { name = x_name; above = []; span = record { area = 0; start = 0; count = 2 }; kind = kind.Text; occurs = record { size = 2; count = 3 } ∷ []; value = None }

abbrev storing : ℕ → Program
storing k =
    record { paragraphs = paragraph [] 0 (Move (Text (65 ∷ [])) (record { names = x_name ∷ []; subs = Literal k ∷ []; cut = None }) ∷ []) ∷ []; layout = record { areas = 6 ∷ []; items = table ∷ []; conds = [] }; channels = [] }

pub leaves_item : ends_of (job_after some_day (storing 4 ∷ []) [] 10) ≡ Failed Range (stated 0) ∷ []
leaves_item = refl

pub third : area_after 0 1 (storing 3) [] ≡ 32 ∷ 32 ∷ 32 ∷ 32 ∷ 65 ∷ 32 ∷ []
third = refl

-- READ F INTO W (2:4), twice, where F holds the record ABC
abbrev f_name : Name
f_name = 70 ∷ []

abbrev w_name : Name
w_name = 87 ∷ []

abbrev disk : Disk
disk = record { length = 3; records = Some ((65 ∷ 66 ∷ 67 ∷ []) ∷ []); opening = Closed }

abbrev reading : Option Place → Program
reading status =
    record {
      paragraphs = paragraph [] 0 (Open Input f_name ∷ Read f_name (Some (cut_place w_name 2 4)) Absent ∷ Read f_name (Some (cut_place w_name 2 4)) (Present (numbered 7 (Nothing ∷ [])) Nil) ∷ Read f_name None Absent ∷ []) ∷ [];
      layout = record { areas = 3 ∷ 5 ∷ 2 ∷ []; items = text_item f_name 0 3 None ∷ text_item w_name 1 5 (Some (Text (86 ∷ 87 ∷ 88 ∷ 89 ∷ 90 ∷ []))) ∷ text_item x_name 2 2 None ∷ []; conds = [] };
      channels = record { name = f_name; file = 0; area = 0; status = status } ∷ [];
    }

pub first_read : area_after 1 2 (reading None) (disk ∷ []) ≡ 86 ∷ 65 ∷ 66 ∷ 67 ∷ 32 ∷ []
first_read = refl

pub second_read : area_after 1 4 (reading None) (disk ∷ []) ≡ 86 ∷ 65 ∷ 66 ∷ 67 ∷ 32 ∷ []
second_read = refl

pub record_stays : area_after 0 4 (reading None) (disk ∷ []) ≡ 65 ∷ 66 ∷ 67 ∷ []
record_stays = refl

-- a READ after the end is status 46: a fault, or in the status item
pub third_read : ends_of (job_after some_day (reading None ∷ []) (disk ∷ []) 9) ≡ Failed File (stated 3) ∷ []
third_read = refl

pub third_status : area_after 2 5 (reading (Some (place x_name))) (disk ∷ []) ≡ 52 ∷ 54 ∷ []
third_status = refl

-- OPEN INPUT of a missing file
abbrev missing : Disk
missing = record { length = 3; records = None; opening = Closed }

pub no_file : ends_of (job_after some_day (reading None ∷ []) (missing ∷ []) 9) ≡ Failed File (stated 0) ∷ []
no_file = refl

pub no_file_status : area_after 2 1 (reading (Some (place x_name))) (missing ∷ []) ≡ 51 ∷ 53 ∷ []
no_file_status = refl

-- numbers in bytes: 12 3D is -123, 12 3E is none, and -12 is written 31 72
pub packed_value : number_in Packed (signed 3) (18 ∷ 61 ∷ []) ≡ Some (record { minus = true; digits = 1 ∷ 2 ∷ 3 ∷ []; scale = 0 })
packed_value = refl

pub packed_fault : number_in Packed (signed 3) (18 ∷ 62 ∷ []) ≡ None
packed_fault = refl

pub display_minus : number_bytes Display (signed 2) true (1 ∷ 2 ∷ []) ≡ 49 ∷ 114 ∷ []
display_minus = refl

pub binary_minus : number_in Binary (signed 4) (number_bytes Binary (signed 4) true (0 ∷ 0 ∷ 1 ∷ 2 ∷ [])) ≡ Some (spelled 19 0 (neg_ℤ (pos 12)))
binary_minus = refl

-- the edited number 001234.5- by ZZ,Z99.9-
pub shown_digits : edited true false (map symbol_of (90 ∷ 90 ∷ 44 ∷ 90 ∷ 57 ∷ 57 ∷ 46 ∷ 57 ∷ 45 ∷ [])) (0 ∷ 1 ∷ 2 ∷ 3 ∷ 4 ∷ 5 ∷ []) ≡ 32 ∷ 49 ∷ 44 ∷ 50 ∷ 51 ∷ 52 ∷ 46 ∷ 53 ∷ 45 ∷ []
shown_digits = refl

pub blank_comma : edited false false (map symbol_of (90 ∷ 44 ∷ 90 ∷ 57 ∷ [])) (0 ∷ 0 ∷ 7 ∷ []) ≡ 32 ∷ 32 ∷ 32 ∷ 55 ∷ []
blank_comma = refl
