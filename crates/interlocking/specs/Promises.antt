-- What each call promises: its answer, what becomes of the interlocking, and the throws, lights and moves that were made, in
-- order and no others. Assumes nothing.
use Rattle.std.specs.Prelude.{◌≡◌, ℕ, List, [], ◌∷◌, length, Ok, Err, Result}
use Rattle.network.specs.declared.route.Step.{Step}
use Rattle.trackside.specs.declared.answers.Lamp.TheVariants.{Red, Green}
use Rattle.trackside.specs.declared.answers.Fault.{Fault}
use Rattle.trackside.specs.declared.answers.Moved.{Moved}
use Rattle.trackside.specs.declared.answers.Stuck.{Stuck}
use Rattle.trackside.specs.declared.Look.{Ghosts}
use Rattle.book.specs.declared.refusal.Refusal.{Refusal}
use Rattle.book.specs.Rules.{cancelled_book, noted_if}
use Rattle.interlocking.specs.declared.Interlocking.{Interlocking}
use Rattle.interlocking.specs.declared.request.Request.{Request}
use Rattle.interlocking.specs.declared.staff.Returned.{Returned}
use Rattle.interlocking.specs.declared.staff.Staff.{Staff}
use Rattle.interlocking.specs.Points.{Act, Light, Move, Chain, Lays}
use Rattle.interlocking.specs.Calls.{became, service_of, first_block, opened, watched_of, lay_guard, open_guard, cancel_guard, reserve_at, form_at, free_at, take_at, give_at, serve_at}

-- a call and its answer; a serve with the requests that waited
pub data Event : Type 0 where
  Reserve : ℕ → Result ℕ Refusal → Event
  Lay : ℕ → Result ℕ Refusal → Event
  Form : ℕ → Result ℕ Refusal → Event
  Open : ℕ → Result ℕ Refusal → Event
  Watch : Result Moved Refusal → Event
  Cancel : ℕ → Result ℕ Refusal → Event
  Free : ℕ → Result ℕ Refusal → Event
  Take : ℕ → Result Staff Refusal → Event
  Give : Staff → Result Unit Returned → Event
  Serve : List Request → Result ℕ Refusal → Event

module _ {S : Type 0} where
  -- nothing below is called, and nothing changes
  pub record Refuses {A : Type 0} (x : Interlocking S) (e : Refusal) (acts : List Act) (a : Result A Refusal) (y : Interlocking S) : Type 0 where
    pub none : acts ≡ []
    pub answer : a ≡ Err e
    pub same : y ≡ x

  -- the points of the route are looked at in turn, and thrown where they lie wrong
  pub record LaysRoute (L : Ghosts S) (x : Interlocking S) (ss : List Step) (acts : List Act) (a : Result ℕ Refusal) (y : Interlocking S) : Type 0 where
    pub lays : Lays L ss x.trackside 0 acts a y.trackside
    pub rest : y ≡ became x y.trackside x.book

  -- the lamp at the route's first block is lit green
  pub record OpensRoute (x : Interlocking S) (ss : List Step) (acts : List Act) (a : Result ℕ Refusal) (y : Interlocking S) : Type 0 where
    pub told : Result Unit Stuck
    pub light : acts ≡ Light (first_block ss) Green told ∷ []
    pub answer : a ≡ opened (first_block ss) told
    pub rest : y ≡ became x y.trackside x.book

  -- the lamp at the route's first block is put to red, and the route and its blocks are let go
  pub record CancelsRoute (x : Interlocking S) (r : ℕ) (ss : List Step) (acts : List Act) (a : Result ℕ Refusal) (y : Interlocking S) : Type 0 where
    pub told : Result Unit Stuck
    pub light : acts ≡ Light (first_block ss) Red told ∷ []
    pub answer : a ≡ Ok (length ss)
    pub rest : y ≡ became x y.trackside (cancelled_book x.book r ss)

  -- one move is made, and the book notes it
  pub record Watches (x : Interlocking S) (acts : List Act) (a : Result Moved Refusal) (y : Interlocking S) : Type 0 where
    pub moved : Result Moved Fault
    pub move : acts ≡ Move moved ∷ []
    pub answer : a ≡ watched_of moved
    pub rest : y ≡ became x y.trackside (noted_if x.book moved)

  abbrev pub LaysIf : Ghosts S → Interlocking S → Result (List Step) Refusal → List Act → Result ℕ Refusal → Interlocking S → Type 0
  LaysIf L x (Err e) acts a y = Refuses x e acts a y
  LaysIf L x (Ok ss) acts a y = LaysRoute L x ss acts a y

  abbrev pub OpensIf : Interlocking S → Result (List Step) Refusal → List Act → Result ℕ Refusal → Interlocking S → Type 0
  OpensIf x (Err e) acts a y = Refuses x e acts a y
  OpensIf x (Ok ss) acts a y = OpensRoute x ss acts a y

  abbrev pub CancelsIf : Interlocking S → ℕ → Result (List Step) Refusal → List Act → Result ℕ Refusal → Interlocking S → Type 0
  CancelsIf x r (Err e) acts a y = Refuses x e acts a y
  CancelsIf x r (Ok ss) acts a y = CancelsRoute x r ss acts a y

  abbrev pub WatchesIf : Interlocking S → Result Unit Refusal → List Act → Result Moved Refusal → Interlocking S → Type 0
  WatchesIf x (Err e) acts a y = Refuses x e acts a y
  WatchesIf x (Ok u) acts a y = Watches x acts a y

  -- a call that asks nothing of the trackside: the answer and what becomes of the interlocking are worked out
  pub record Settled {A : Type 0} (found : A × Interlocking S) (acts : List Act) (a : A) (y : Interlocking S) : Type 0 where
    pub none : acts ≡ []
    pub is : (a, y) ≡ found

  -- a serve, with the requests that wait afterwards
  pub record Served (found : (Result ℕ Refusal × Interlocking S) × List Request) (acts : List Act) (a : Result ℕ Refusal) (y : Interlocking S) : Type 0 where
    pub none : acts ≡ []
    pub wait : List Request
    pub is : ((a, y), wait) ≡ found

  -- what a call does by these acts
  abbrev pub Does : Ghosts S → Interlocking S → Event → List Act → Interlocking S → Type 0
  Does L x (Reserve r a) acts y = Settled (reserve_at x r) acts a y
  Does L x (Lay r a) acts y = LaysIf L x (lay_guard x r) acts a y
  Does L x (Form r a) acts y = Settled (form_at (L.as_ground x.trackside) x r) acts a y
  Does L x (Open r a) acts y = OpensIf x (open_guard (L.as_ground x.trackside) x r) acts a y
  Does L x (Watch a) acts y = WatchesIf x (service_of x.unfit) acts a y
  Does L x (Cancel r a) acts y = CancelsIf x r (cancel_guard x r) acts a y
  Does L x (Free r a) acts y = Settled (free_at x r) acts a y
  Does L x (Take b a) acts y = Settled (take_at x b) acts a y
  Does L x (Give s a) acts y = Settled (give_at x s) acts a y
  Does L x (Serve qs a) acts y = Served (serve_at x qs) acts a y

  -- the call was made: by these acts, which lead from the trackside before it to the one after it, it did what it does
  pub record Performed (L : Ghosts S) (x : Interlocking S) (e : Event) (y : Interlocking S) : Type 0 where
    pub acts : List Act
    pub chain : Chain L x.trackside acts y.trackside
    pub does : Does L x e acts y
