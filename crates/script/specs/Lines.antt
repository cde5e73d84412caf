-- What a line of a text of calls says: nothing, where it is blank or begins with #; a call, where it is a verb with its numbers. Assumes nothing.
use Rattle.std.specs.Prelude.{◌≡◌, ℕ, ◌^◌, Bool, true, false, cond, ◌&&◌, ◌||◌, List, [], ◌∷◌, length, Some, None, Ok, Err, codes, Option, Result, MatchResult, ◌==◌, ◌≢◌, nat_lt, Float}
use Rattle.std.specs.Str.Parse.{without_leading_plus, digits_value}
use Rattle.std.specs.Str.{all_ascii_digits, bytes_eq}
use Rattle.history.specs.declared.Call.{Call}
use Rattle.history.specs.declared.Call.TheVariants.{Add as AddPoint, Move as MovePoint, Drop as DropPoint, TakeBack, Measure as MeasureAll}
use Rattle.text.specs.Words.{first_word, after_word}
use Rattle.script.specs.Numbers.{absent, ReadsNumbers}
use Rattle.script.specs.declared.Verb.{Verb}
use Rattle.script.specs.declared.Verb.TheVariants.{Add, Move, Drop, Back, Measure}
use Rattle.script.specs.declared.NotACall.{NotACall}

abbrev pub word_of : Verb → List ℕ
word_of Add = codes "add"
word_of Move = codes "move"
word_of Drop = codes "drop"
word_of Back = codes "back"
word_of Measure = codes "measure"

-- the verb that the word is; no other word is the word of a call
abbrev pub ReadsVerb : List ℕ → Result Verb NotACall → Type 0
ReadsVerb word answer = MatchResult answer (λ v. word_of v ≡ word) (λ _. (v : Verb) → word_of v ≢ word)

-- one digit or more, perhaps after a plus, that write a number below 2^64
abbrev pub is_place : List ℕ → Bool
is_place word = nat_lt 0 (length (without_leading_plus word)) && (all_ascii_digits (without_leading_plus word) && nat_lt (digits_value 10 (without_leading_plus word)) (2 ^ 64))

-- the place that a word writes
unfoldable pub place_of : List ℕ → Option ℕ
place_of word = cond (is_place word) (Some (digits_value 10 (without_leading_plus word))) None

-- a call stands alone on its line
abbrev pub only_if : Bool → Call → Option Call
only_if alone call = cond alone (Some call) None

abbrev pub add_of : Option (List Float) → Option Call
add_of (Some (lat ∷ lon ∷ [])) = Some (AddPoint lat lon)
add_of _ = None

abbrev pub move_of : Option (List Float) → Option ℕ → Option Call
move_of (Some (lat ∷ lon ∷ [])) (Some place) = Some (MovePoint place lat lon)
move_of _ _ = None

abbrev pub drop_from : Option ℕ → Bool → Option Call
drop_from None alone = None
drop_from (Some place) alone = only_if alone (DropPoint place)

abbrev pub measure_from : Bool → Bool → Bool → Option Call
measure_from signed unsigned alone = cond (signed || unsigned) (only_if alone (MeasureAll signed)) None

-- add LAT LON
abbrev pub ReadsAdd : List ℕ → Option Call → Type 0
ReadsAdd words call = (point : Option (List Float)) × ReadsNumbers 2 words point × (call ≡ add_of point)

-- move PLACE LAT LON
abbrev pub ReadsMove : List ℕ → Option Call → Type 0
ReadsMove words call =
    (point : Option (List Float)) × ReadsNumbers 2 (after_word words) point × (call ≡ move_of point (place_of (first_word words)))

-- drop PLACE
abbrev pub drop_of : List ℕ → Option Call
drop_of words = drop_from (place_of (first_word words)) (absent (first_word (after_word words)))

-- back
abbrev pub back_of : List ℕ → Option Call
back_of words = only_if (absent (first_word words)) TakeBack

-- measure, or measure unsigned
abbrev pub measure_of : List ℕ → Option Call
measure_of words = measure_from (absent (first_word words)) (bytes_eq (first_word words) (codes "unsigned")) (absent (first_word (after_word words)))

-- the call that a verb and the words after it make, or none
abbrev pub Makes : Verb → List ℕ → Option Call → Type 0
Makes Add words call = ReadsAdd words call
Makes Move words call = ReadsMove words call
Makes Drop words call = call ≡ drop_of words
Makes Back words call = call ≡ back_of words
Makes Measure words call = call ≡ measure_of words

-- the first word of a line that says nothing: none, or one that begins with #
abbrev pub silent : List ℕ → Bool
silent [] = true
silent (c ∷ cs) = c == 35

abbrev pub no_call : NotACall
no_call = record {}

abbrev pub answer_of : Option Call → Result (Option Call) NotACall
answer_of None = Err no_call
answer_of (Some call) = Ok (Some call)

-- what the words after a verb say; without a verb, nothing that can be read
abbrev pub SaysAfter : Result Verb NotACall → List ℕ → Result (Option Call) NotACall → Type 0
SaysAfter (Err _) words answer = answer ≡ Err no_call
SaysAfter (Ok verb) words answer = (call : Option Call) × Makes verb words call × (answer ≡ answer_of call)

pub record Says (line : List ℕ) (answer : Result (Option Call) NotACall) : Type 0 where
  pub remark : silent (first_word line) ≡ true → answer ≡ Ok None
  pub call : silent (first_word line) ≡ false → (verb : Result Verb NotACall) × ReadsVerb (first_word line) verb × SaysAfter verb (after_word line) answer
