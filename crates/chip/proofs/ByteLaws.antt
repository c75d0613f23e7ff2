-- A drive and an act ask of a device its bytes only.
--     cell_bytes, level_bytes      what stands at an address, and what a drive shows, by the bytes.        acted_bytes      the device after an act, by the bytes after it
use Prim.Native.Nat.{ℕ}
use mathlib.Core.Path.{◌≡◌, refl}
use mathlib.Core.List.{[]}
use Rattle.chip.specs.declared.Device.{Device}
use Rattle.chip.specs.declared.Region.{Region}
use Rattle.chip.specs.declared.Region.TheVariants.{Main, Security}
use Rattle.chip.specs.declared.Command.{Command}
use Rattle.chip.specs.declared.Command.TheVariants.{Page, Lock, Check, Rom, Freeze}
use Rattle.chip.specs.declared.Drive.{Drive}
use Rattle.chip.specs.declared.Drive.TheVariants.{Free, Low, CellBit, IdBit}
use Rattle.chip.specs.declared.Act.{Act}
use Rattle.chip.specs.declared.Act.TheVariants.{Nothing, Put, Program}
use Rattle.chip.specs.Memory.{of_bytes, cell_of, level_of, with_main, with_user, with_page, programmed, acted}

module _ (d : Device) where
  pub cell_bytes : (r : Region) (p : ℕ) → cell_of (of_bytes [] d.main d.serial d.user []) r p ≡ cell_of d r p
  cell_bytes Main p = refl
  cell_bytes Security p = refl

  pub level_bytes : (v : Drive) → level_of (of_bytes d.id d.main d.serial d.user []) v ≡ level_of d v
  unfolding level_of
  level_bytes Free = refl
  level_bytes Low = refl
  level_bytes (CellBit Main p n) = refl
  level_bytes (CellBit Security p n) = refl
  level_bytes (IdBit k n) = refl

  abbrev pub held : Device
  held = of_bytes [] d.main [] d.user d.page

  pub page_stays : (c : Command) (p t m : ℕ) → (programmed d c p t m).page ≡ d.page
  page_stays (Page Main) p t m = refl
  page_stays (Page Security) p t m = refl
  page_stays Lock p t m = refl
  page_stays Check p t m = refl
  page_stays Rom p t m = refl
  page_stays Freeze p t m = refl

  -- a device with the bytes that another has after something
  abbrev pub changed : Device → Device
  changed e = with_page (with_user (with_main d e.main) e.user) e.page

  pub acted_bytes : (a : Act) → changed (acted held a) ≡ acted d a
  unfolding acted
  acted_bytes Nothing = refl
  acted_bytes (Put k x) = refl
  acted_bytes (Program (Page Main) p t m) = refl
  acted_bytes (Program (Page Security) p t m) = refl
  acted_bytes (Program Lock p t m) = refl
  acted_bytes (Program Check p t m) = refl
  acted_bytes (Program Rom p t m) = refl
  acted_bytes (Program Freeze p t m) = refl
