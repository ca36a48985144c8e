-- The laws of the caller: what the caller's end keeps, what a note says, and that none is left out.
use Rattle.std.specs.Prelude.{is_some, Ok, Err, ◌≡◌, ℕ, max, Bool, true, false, cond, ◌&&◌, ◌||◌, List, Some, None, Option}
use Rattle.isup.specs.declared.message.Event.TheVariants as progress
use Rattle.isup.specs.declared.message.LineStatus.TheVariants as status
use Rattle.isup.specs.declared.message.Message.{Message}
use Rattle.isup.specs.declared.message.Message.TheVariants as message
use Rattle.isup.specs.declared.message.Notice.{Notice}
use Rattle.isup.specs.declared.message.Notification.{Notification}
use Rattle.isup.specs.declared.message.Notification.TheVariants as notification
use Rattle.isup.specs.declared.message.Restriction.{Restriction}
use Rattle.isup.specs.declared.message.Restriction.TheVariants.{Allowed, Restricted}
use Rattle.isup.specs.declared.message.Way.TheVariants.{Back}
use Rattle.options.specs.declared.record.NotificationOption.{NotificationOption}
use Rattle.options.specs.declared.record.NotificationOption.TheVariants.{NotAllowed, WithNumber, WithoutNumber}
use Rattle.rules.specs.declared.note.Note.{Note}
use Rattle.rules.specs.declared.note.NoteKind.{NoteKind}
use Rattle.rules.specs.declared.note.NoteKind.TheVariants as note
use Rattle.rules.specs.declared.request.Granted.TheVariants as granted
use Rattle.rules.specs.Parts.{Answer, at, Setup, Call, Signal, State}
use Rattle.rules.specs.Runs.{Entry}
use Rattle.rules.specs.Laws.{strictness}

-- What a message says. Its notice
abbrev pub notice_in : {N : Type 0} → Message N → Option (Notice N)
notice_in (message.InitialAddress s n r) = None
notice_in (message.AddressComplete st b) = b.notice
notice_in (message.CallProgress ev b) = b.notice
notice_in (message.Answer r) = None
notice_in (message.Connect r) = None
notice_in (message.Release c) = None

-- its restriction indicator
abbrev pub restriction_in : {N : Type 0} → Message N → Option Restriction
restriction_in (message.InitialAddress s n r) = None
restriction_in (message.AddressComplete st b) = b.restriction
restriction_in (message.CallProgress ev b) = b.restriction
restriction_in (message.Answer r) = r
restriction_in (message.Connect r) = r
restriction_in (message.Release c) = None

-- the note that it gives: progress, alerting, answer, or release with its cause
abbrev pub note_in : {N : Type 0} → Message N → Option NoteKind
note_in (message.InitialAddress s n r) = None
note_in (message.AddressComplete status.Free b) = Some note.Alerting
note_in (message.AddressComplete status.NoIndication b) = Some note.Progress
note_in (message.CallProgress progress.Alerting b) = Some note.Alerting
note_in (message.CallProgress progress.Progress b) = Some note.Progress
note_in (message.Answer r) = Some note.Answer
note_in (message.Connect r) = Some note.Answer
note_in (message.Release c) = Some (note.Release c)

-- how strict the option of a notice is: unknown counts as not allowed
abbrev pub stated_strictness : Notification → ℕ
stated_strictness notification.Unknown = strictness (Some NotAllowed)
stated_strictness notification.NotAllowed = strictness (Some NotAllowed)
stated_strictness notification.WithNumber = strictness (Some WithNumber)
stated_strictness notification.WithoutNumber = strictness (Some WithoutNumber)

-- no notice is not strict at all
abbrev pub notice_strictness : {N : Type 0} → Option (Notice N) → ℕ
notice_strictness None = 0
notice_strictness (Some n) = stated_strictness n.information.notification

-- the number kept: that of the notice, or else the one kept before
abbrev pub number_kept : {N : Type 0} → Option (Notice N) → Option N → Option N
number_kept None kept = kept
number_kept (Some n) kept = Some n.number

-- What options allow. The strictest is 2
abbrev pub is_with_number : Option NotificationOption → Bool
is_with_number None = false
is_with_number (Some NotAllowed) = false
is_with_number (Some WithNumber) = true
is_with_number (Some WithoutNumber) = false

-- it is 3
abbrev pub is_without_number : Option NotificationOption → Bool
is_without_number None = false
is_without_number (Some NotAllowed) = false
is_without_number (Some WithNumber) = false
is_without_number (Some WithoutNumber) = true

-- the restriction indicator is there and says that the number may be shown
abbrev pub may_show : Option Restriction → Bool
may_show None = false
may_show (Some Allowed) = true
may_show (Some Restricted) = false

-- A note comes of a message back on leg 0 that a step takes while the caller is up. The message's own notice counts first
-- in the strictest option and the number kept. The note says "diverted" exactly when the message has the notice and the
-- strictest option is then 2 or 3; it shows the number kept exactly when the message says that it may be shown and the
-- strictest option is 2; and a release note has the message's cause
pub record Noted {N : Type 0} (e : Signal N) (was now : Call N) (n : Note N) : Type 0 where
  pub call : n.call ≡ e.call
  pub leg : e.leg ≡ 0
  pub way : e.way ≡ Back
  pub up : was.up ≡ true
  pub kind : note_in e.message ≡ Some n.kind
  pub strictest : strictness now.strictest ≡ max (strictness was.strictest) (notice_strictness (notice_in e.message))
  pub kept : now.kept ≡ number_kept (notice_in e.message) was.kept
  pub diverted : n.diverted ≡ (is_some (notice_in e.message) && (is_with_number now.strictest || is_without_number now.strictest))
  pub shown : n.shown ≡ cond (may_show (restriction_in e.message) && is_with_number now.strictest) now.kept None

-- the note of a step is of the message taken, and of what the caller's end of that call kept before and keeps now
pub record NotedIn {N : Type 0} (before after : List (Option (Call N))) (taken : Option (Signal N)) (n : Note N) : Type 0 where
  pub signal : Signal N
  pub was : Call N
  pub now : Call N
  pub this : taken ≡ Some signal
  pub old : at before n.call ≡ Some was
  pub new : at after n.call ≡ Some now
  pub noted : Noted signal was now n

-- only a step has a note
abbrev pub NotedBy : {N : Type 0} → List (Option (Call N)) → List (Option (Call N)) → Option (Signal N) → Answer N → Type 0
NotedBy before after t (Err r) = Unit {0}
NotedBy before after t (Ok (granted.Opened c)) = Unit {0}
NotedBy before after t (Ok (granted.Stepped None)) = Unit {0}
NotedBy before after t (Ok (granted.Stepped (Some n))) = NotedIn before after t n
NotedBy before after t (Ok granted.Done) = Unit {0}

-- the answer opens call c, or has a note for its caller
abbrev pub Concerns : {N : Type 0} → ℕ → Answer N → Type 0
Concerns c (Err r) = ⊥
Concerns c (Ok (granted.Opened j)) = j ≡ c
Concerns c (Ok (granted.Stepped None)) = ⊥
Concerns c (Ok (granted.Stepped (Some n))) = n.call ≡ c
Concerns c (Ok granted.Done) = ⊥

-- what the caller's end keeps is the same
abbrev pub SameKept : {N : Type 0} → Call N → Call N → Type 0
SameKept d f = (f.strictest ≡ d.strictest) × (f.kept ≡ d.kept)

-- the caller's end keeps nothing at opening, and what it keeps changes only with a note
pub record Informs {N : Type 0} (s : Setup N) (g : State N) (e : Entry N) (h : State N) : Type 0 where
  pub noted : NotedBy g.calls h.calls e.taken e.answer
  pub kept : (c : ℕ) (d f : Call N) → (Concerns c e.answer → ⊥) → at g.calls c ≡ Some d → at h.calls c ≡ Some f → SameKept d f
  pub opening : (c : ℕ) (f : Call N) → e.answer ≡ Ok (granted.Opened c) → at h.calls c ≡ Some f → (f.strictest ≡ None) × (f.kept ≡ None)

-- No note is left out. Whether an answer has a note
abbrev pub has_note : {N : Type 0} → Answer N → Bool
has_note (Err r) = false
has_note (Ok (granted.Opened c)) = false
has_note (Ok (granted.Stepped o)) = is_some o
has_note (Ok granted.Done) = false

-- a message back on leg 0 that is taken while the caller is up gives a note, if its type gives any
abbrev pub NotesFor : {N : Type 0} → State N → Option (Signal N) → Answer N → Type 0
NotesFor g None a = Unit {0}
NotesFor g (Some e) a =
    (d : Call _) → at g.calls e.call ≡ Some d → d.up ≡ true → e.leg ≡ 0 → e.way ≡ Back → is_some (note_in e.message) ≡ true → has_note a ≡ true

abbrev pub Notes : {N : Type 0} → Setup N → State N → Entry N → State N → Type 0
Notes s g e h = NotesFor g e.taken e.answer
