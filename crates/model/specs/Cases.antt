-- The marked cases a to l ("File K and its kin"): one list, and one test of it that computes. Segment tables: another. What the
-- program prints for its commands, and what the words behind its name ask for: two more.
use Rattle.std.specs.Prelude.{ℕ, Some, None, Result, Ok, Err, ◌+◌, ◌≡◌, refl, Bool, true, false, ◌&&◌, List, [], ◌∷◌, length, replicate, eqb}
use Prim.Native.Char.{code}
use Prim.Native.String.{String, [] as []ˢ, ◌∷◌ as ◌∷ˢ◌, ◌++◌ as ◌++ˢ◌}
use Rattle.model.specs.Lists.{all}
use Rattle.model.specs.Answer.{Answer, given, refused, ◌>>=◌}
use Rattle.model.specs.Text.{finished_number}
use Rattle.model.specs.Segments.{segment_table}
use Rattle.model.specs.Calls.{checked, impact_answered, totalled, searched, reported, segmented, ceiling_answered}
use Rattle.model.specs.Commands.{prints, requested}
use Rattle.model.specs.declared.Command.{Command}
use Rattle.model.specs.declared.Request.{Request}
use Rattle.model.specs.declared.Misuse.{Misuse}

-- the bytes of a text in which `|` stands for a newline
bytes : String → List ℕ
bytes []ˢ = []
bytes (c ∷ˢ s) = elim (eqb (code c) 124) [ true ↦ 10 ∷ bytes s | false ↦ code c ∷ bytes s ]

-- a call, and what it answers as a list of numbers
data Call : Type 0 where
  Check : Call
  Impact : ℕ → Call
  Total : Call
  Search : Call
  Report : Call
  Segments : Call
  Ceiling : ℕ → ℕ → Call

-- a buffer that is long enough for every call
room : List ℕ
room = replicate 32768 0

answers : Call → List ℕ → Answer (List ℕ)
answers Check file = checked file >>= λ u. given []
answers (Impact l) file = impact_answered file l >>= λ n. given (n ∷ [])
answers Total file = totalled file >>= λ t. given (t.total ∷ t.figure ∷ [])
-- in the order of the report's line C, and then the members
answers Search file = searched file room >>= λ f. given (finished_number f ∷ f.visits ∷ length f.members ∷ f.best ∷ f.members)
answers Report file = reported file room
answers Segments file = segmented file room >>= λ N. given (segment_table N)
answers (Ceiling places additions) file = ceiling_answered places additions >>= λ n. given (n ∷ [])

-- two answers are the same
same_list : List ℕ → List ℕ → Bool
same_list [] [] = true
same_list [] (y ∷ ys) = false
same_list (x ∷ xs) [] = false
same_list (x ∷ xs) (y ∷ ys) = eqb x y && same_list xs ys

same : Answer (List ℕ) → Answer (List ℕ) → Bool
same (given xs) (given ys) = same_list xs ys
same (given xs) (refused n r) = false
same (refused m q) (given ys) = false
same (refused m q) (refused n r) = eqb m n && eqb q r

record Case : Type 0 where
  file : String
  call : Call
  expected : Answer (List ℕ)

passes : Case → Bool
passes c = same (answers c.call (bytes c.file)) c.expected

-- file K with another head, and further lines behind its three
kin : String → String → String
kin head more = head ++ˢ "|S,1,0|S,0,10|S,0,20|S,0,30|L,2,1,2,1,0|L,3,2,3,0,0|L,5,3,4,0,0|" ++ˢ more ++ˢ "P,2,1,4,1|P,3,1,4,1|"

K : String
K = kin "N,4,3,90,3,1,10,8,100" ""

K4 : String → String
K4 fourth = kin "N,4,4,90,3,1,10,8,100" fourth

-- file K with its lines 2 and 3 changed, and without places
three : String → String
three lines = "N,4,3,90,3,1,10,8,100|S,1,0|S,0,10|S,0,20|S,0,30|L,2,1,2,1,0|" ++ˢ lines

infix 70 ◌asked◌gives◌
◌asked◌gives◌ : String → Call → Answer (List ℕ) → Case
f asked c gives a = record { file = f; call = c; expected = a }

cases : List Case
cases =
    -- a
    K asked Total gives given (600 ∷ 54000 ∷ [])
    ∷ K asked Search gives given (1 ∷ 3 ∷ 1 ∷ 450 ∷ 2 ∷ [])
    ∷ K asked Report gives given (bytes "A,600,54000|F,1,60,120|F,2,60,180|F,3,60,300|C,1,3,1,450|B,3,1|")
    -- b: adds 2
    ∷ kin "N,4,3,90,3,2,10,8,100" "" asked Search gives given (1 ∷ 3 ∷ 2 ∷ 420 ∷ 1 ∷ 2 ∷ [])
    -- c: adds 2, money 7
    ∷ kin "N,4,3,90,3,2,7,8,100" "" asked Search gives given (1 ∷ 3 ∷ 1 ∷ 450 ∷ 2 ∷ [])
    -- d: adds 2, series 2
    ∷ kin "N,4,3,90,2,2,10,8,100" "" asked Search gives given (1 ∷ 3 ∷ 1 ∷ 450 ∷ 2 ∷ [])
    -- e: series 1
    ∷ kin "N,4,3,90,1,1,10,8,100" "" asked Search gives given (1 ∷ 1 ∷ 0 ∷ 600 ∷ [])
    -- f: visits 2, and visits 3
    ∷ kin "N,4,3,90,3,1,10,8,2" "" asked Search gives given (0 ∷ 2 ∷ 1 ∷ 520 ∷ 1 ∷ [])
    ∷ kin "N,4,3,90,3,1,10,8,3" "" asked Search gives given (1 ∷ 3 ∷ 1 ∷ 450 ∷ 2 ∷ [])
    -- g: adds 0
    ∷ kin "N,4,3,90,3,0,10,8,100" "" asked Search gives given (1 ∷ 1 ∷ 0 ∷ 600 ∷ [])
    -- h, i, j: a fourth line
    ∷ K4 "L,7,4,1,0,1|" asked Check gives refused 6 0
    ∷ K4 "L,7,4,1,2,1|" asked Total gives given (600 ∷ 54000 ∷ [])
    ∷ K4 "L,7,4,1,2,1|" asked Impact 4 gives given (0 ∷ [])
    ∷ K4 "L,7,4,1,0,2|" asked Total gives given (1020 ∷ 91800 ∷ [])
    -- k
    ∷ "N,1,0,90,3,0,0,0,1|S,1,0|" asked Total gives given (0 ∷ 0 ∷ [])
    ∷ "N,1,0,90,3,0,0,0,1|S,1,0|" asked Search gives given (1 ∷ 1 ∷ 0 ∷ 0 ∷ [])
    -- l
    ∷ "" asked Ceiling 2 1 gives given (3 ∷ [])
    ∷ []

marked-cases : all passes cases ≡ true
unfolding all cases passes same same_list answers bytes room kin K K4 ◌asked◌gives◌ checked impact_answered totalled searched reported ceiling_answered
marked-cases = refl

-- the segment table of K; with a second breaker, at line 2, 3, or the far end of line 2; with a line that hangs behind a breaker of its
-- own; with breakers at both ends of one line; without a line
tables : List Case
tables =
    K asked Segments gives given (1 ∷ 1 ∷ 10 ∷ 60 ∷ 600 ∷ [])
    ∷ three "L,3,2,3,1,0|L,5,3,4,0,0|" asked Segments gives given (1 ∷ 1 ∷ 2 ∷ 60 ∷ 120 ∷ 2 ∷ 1 ∷ 8 ∷ 50 ∷ 400 ∷ [])
    ∷ three "L,3,2,3,0,0|L,5,3,4,1,0|" asked Segments gives given (1 ∷ 1 ∷ 5 ∷ 60 ∷ 300 ∷ 3 ∷ 1 ∷ 5 ∷ 30 ∷ 150 ∷ [])
    ∷ three "L,3,2,3,0,1|L,5,3,4,0,0|" asked Segments gives given (1 ∷ 1 ∷ 5 ∷ 60 ∷ 300 ∷ 2 ∷ 2 ∷ 5 ∷ 50 ∷ 250 ∷ [])
    ∷ K4 "L,7,4,1,2,1|" asked Segments gives given (1 ∷ 1 ∷ 10 ∷ 60 ∷ 600 ∷ 4 ∷ 2 ∷ 7 ∷ 0 ∷ 0 ∷ [])
    ∷ "N,2,1,90,3,0,0,0,1|S,1,0|S,0,5|L,3,1,2,1,1|" asked Segments gives given (1 ∷ 1 ∷ 3 ∷ 5 ∷ 15 ∷ 1 ∷ 2 ∷ 0 ∷ 5 ∷ 0 ∷ [])
    ∷ "N,1,0,90,3,0,0,0,1|S,1,0|" asked Segments gives given []
    ∷ []

marked-tables : all passes tables ≡ true
unfolding all tables passes same same_list answers bytes room kin K K4 three ◌asked◌gives◌ segmented segment_table
marked-tables = refl

-- a command, the file that it reads, and what it prints
record Printing : Type 0 where
  command : Command
  file : String
  text : String

infix 70 ◌on◌shows◌
◌on◌shows◌ : Command → String → String → Printing
c on f shows t = record { command = c; file = f; text = t }

printings : List Printing
printings =
    Command.Report on K shows "A,600,54000|F,1,60,120|F,2,60,180|F,3,60,300|C,1,3,1,450|B,3,1|"
    ∷ Command.Check on K shows "K|"
    ∷ Command.Impact 2 on K shows "I,2,60|"
    ∷ Command.Total on K shows "A,600,54000|"
    ∷ Command.Search on K shows "C,1,3,1,450|B,3,1|"
    ∷ Command.Segments on three "L,3,2,3,0,0|L,5,3,4,1,0|" shows "G,2|T,1,1,5,60,300|T,3,1,5,30,150|"
    ∷ Command.Segments on "N,1,0,90,3,0,0,0,1|S,1,0|" shows "G,0|"
    ∷ Command.Ceiling 2 1 on "" shows "M,2,1,3|"
    -- refused: a number that is no line's, too many places, and files that each of them refuses
    ∷ Command.Impact 4 on K shows "X,2,0|"
    ∷ Command.Impact 0 on K shows "X,2,0|"
    ∷ Command.Ceiling 65 1 on "" shows "X,2,0|"
    ∷ Command.Impact 9 on "" shows "X,1,1|"
    ∷ Command.Check on K4 "L,7,4,1,0,1|" shows "X,6,0|"
    ∷ Command.Total on K4 "L,7,4,1,0,1|" shows "X,6,0|"
    ∷ Command.Search on "N,1,0,90,3,0,0,0,1|S,0,5|" shows "X,8,2|"
    ∷ Command.Segments on "N,1,0,90,3,0,0,0,1|S,1,5|" shows "X,2,2|"
    ∷ []

marked-printings : all (λ c. same_list (prints c.command (bytes c.file)) (bytes c.text)) printings ≡ true
unfolding all printings same_list bytes kin K K4 three ◌on◌shows◌ prints
marked-printings = refl

-- the words behind the program's name, and what they ask for
request : List String → Result Request Misuse
request [] = requested 0 [] [] []
request (a ∷ []) = requested 1 (bytes a) [] []
request (a ∷ b ∷ []) = requested 2 (bytes a) (bytes b) []
request (a ∷ b ∷ c ∷ more) = requested (3 + length more) (bytes a) (bytes b) (bytes c)

pub record Requests : Type 0 where
  nothing : request [] ≡ Ok (Request.Ask Command.Report None)
  from_input : request ("check" ∷ []) ≡ Ok (Request.Ask Command.Check None)
  from_file : request ("search" ∷ "a.net" ∷ []) ≡ Ok (Request.Ask Command.Search (Some 2))
  numbered : request ("impact" ∷ "12" ∷ []) ≡ Ok (Request.Ask (Command.Impact 12) None)
  both : request ("impact" ∷ "12" ∷ "a.net" ∷ []) ≡ Ok (Request.Ask (Command.Impact 12) (Some 3))
  no_file : request ("ceiling" ∷ "64" ∷ "16" ∷ []) ≡ Ok (Request.Ask (Command.Ceiling 64 16) None)
  file : request ("a.net" ∷ []) ≡ Ok (Request.Ask Command.Report (Some 1))
  help : request ("-h" ∷ []) ≡ Ok Request.Help
  version : request ("version" ∷ []) ≡ Ok Request.Version
  missing : request ("impact" ∷ []) ≡ Err Misuse.NoNumber
  one_missing : request ("ceiling" ∷ "64" ∷ []) ≡ Err Misuse.NoNumber
  no_number : request ("impact" ∷ "a.net" ∷ []) ≡ Err (Misuse.BadNumber 2)
  leading_zero : request ("ceiling" ∷ "64" ∷ "016" ∷ []) ≡ Err (Misuse.BadNumber 3)
  eleven_digits : request ("impact" ∷ "10000000000" ∷ []) ≡ Err (Misuse.BadNumber 2)
  two_files : request ("total" ∷ "a.net" ∷ "b.net" ∷ []) ≡ Err Misuse.TooMany
  helpful : request ("help" ∷ "total" ∷ []) ≡ Err Misuse.TooMany
  file_to_ceiling : request ("ceiling" ∷ "64" ∷ "16" ∷ "a.net" ∷ []) ≡ Err Misuse.TooMany
  unknown : request ("Check" ∷ "a.net" ∷ []) ≡ Err Misuse.Unknown

marked-requests : Requests
unfolding request requested bytes
marked-requests = record {
  nothing = refl;
  from_input = refl;
  from_file = refl;
  numbered = refl;
  both = refl;
  no_file = refl;
  file = refl;
  help = refl;
  version = refl;
  missing = refl;
  one_missing = refl;
  no_number = refl;
  leading_zero = refl;
  eleven_digits = refl;
  two_files = refl;
  helpful = refl;
  file_to_ceiling = refl;
  unknown = refl;
}
