-- What opening and edits answer and leave: the number, 0 where nothing is refused, the session, and the working memory as rule 5 says.
use Rattle.std.specs.Prelude.{cond, ◌≡◌, List, ℕ, zero, suc, leb, length, Result}
use Rattle.flowsheet.specs.Answers.{number_of as sheet_number_of, told, code_by}
use Rattle.flowsheet.specs.Image.{first, unit_list, stream_list}
use Rattle.flowsheet.specs.Sheet.{sheet_of}
use Rattle.planner.specs.Answer.{number_of as planner_number_of, planned_image, work_after}
use Rattle.planner.specs.Plan.{too_large}
use Rattle.planner.specs.declared.Refusal.{Refusal as planner_refusal}
use Rattle.session.specs.Edited.{edited}
use Rattle.session.specs.Refused.{fault_of}
use Rattle.session.specs.Session.{is_held, session_of}
use Rattle.session.specs.declared.Edit.{Edit}
use Rattle.session.specs.declared.Edit.TheVariants.{AddStream}
use Rattle.session.specs.declared.Refusal.{Refusal}
use Rattle.session.specs.declared.Refusal.TheVariants.{Sheet, LargeBlock, ShortMemory, Number, Held, Full, NotHeld, InUse, LargeAfter, NoSession}
use Rattle.session.specs.declared.Session.{Session}

-- the number of each refusal of an edit
abbrev pub number_of : Refusal → ℕ
number_of (Sheet r) = sheet_number_of r
number_of LargeBlock = 11
number_of ShortMemory = 12
number_of Number = 20
number_of Held = 21
number_of Full = 22
number_of NotHeld = 23
number_of InUse = 24
number_of LargeAfter = 25
number_of NoSession = 26

-- what a host is told: 0, or the refusal's number
abbrev pub code_of : {A : Type 0} → Result A Refusal → ℕ
code_of answer = code_by number_of answer

-- a number, and the session that goes with it
pub record Made : Type 0 where
  pub number : ℕ
  pub session : Session

-- 0 and the new session, or a number and the session as it stood
abbrev pub kept_or : ℕ → Session → Session → Made
kept_or zero new old = record { number = 0; session = new }
kept_or (suc k) new old = record { number = suc k; session = old }

-- what is returned, as such: a new session, or a refusal, by the numbers of its kind, beside the session that stays
abbrev pub made_by : {E : Type 0} → (E → ℕ) → Session → Result Session E → Made
made_by number s answer = told (λ t. record { number = 0; session = t }) (λ r. record { number = number r; session = s }) answer

-- ---- edits

-- "a block over 12 units": 11 from add stream; "after the edit": 25 from remove stream and weight. Adding or removing a unit makes no block larger
-- (`not_large` of proofs/ShutOut), so the number that stands here for these two is never given.
abbrev pub large_number : Edit → ℕ
large_number (AddStream s) = 11
large_number e = 25

-- "In edits a short working memory is 12 before all else"; then 26; then what the flowsheet refuses; then 11 or 25. `room` is the memory's length.
unfoldable pub edit_number : Edit → Session → ℕ → ℕ
edit_number e s room =
    cond (leb 65536 room)
    (cond (is_held s)
    (first (fault_of e s.sheet)
    (cond (too_large (edited e s.sheet).units (edited e s.sheet).streams) (large_number e) 0))
    26)
    12

unfoldable pub made_of : Edit → Session → ℕ → Made
made_of e s room = kept_or (edit_number e s room) (session_of (edited e s.sheet)) s

-- what a function that makes an edit of s returns, as such an answer
abbrev pub made : Session → Result Session Refusal → Made
made s answer = made_by number_of s answer

-- what an edit of s answers, and what stands after it
pub record Editing (e : Edit) (s : Session) (work : List ℕ) (code : ℕ) (s' : Session) (work' : List ℕ) : Type 0 where
  pub number : code ≡ (made_of e s (length work)).number
  pub session : s' ≡ (made_of e s (length work)).session
  pub memory : work' ≡ work_after work

-- ---- opening

-- "an opening refuses as planning does, without a plan buffer, and then the session handed in stays"; else the image's session replaces it
unfoldable pub opened_of : Session → List ℕ → ℕ → Made
opened_of s image room =
    kept_or (planned_image image room).number (session_of (sheet_of (unit_list image) (stream_list image))) s

-- what a function that opens an image returns, beside a session that stays on a refusal
abbrev pub opened : Session → Result Session planner_refusal → Made
opened s answer = made_by planner_number_of s answer

-- what opening an image answers a session s, and what stands after it
pub record Opening (s : Session) (image work : List ℕ) (code : ℕ) (s' : Session) (work' : List ℕ) : Type 0 where
  pub number : code ≡ (opened_of s image (length work)).number
  pub session : s' ≡ (opened_of s image (length work)).session
  pub memory : work' ≡ work_after work
