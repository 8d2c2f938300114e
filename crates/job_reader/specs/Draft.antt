-- A head that is being read.
use Rattle.std.specs.Prelude.{◌≡◌, ℕ, ◌+◌, ◌≤◌, List, [], ◌∷◌, ◌++◌, Bool, true, false, ◌&&◌, nat_lt, Option, Some, None}
use Rattle.std.specs.Option.{option_map}
use Rattle.usb_descriptor.specs.declared.strings.StringPart.{StringPart}
use Rattle.usb_descriptor.specs.Strings.{Ascend}
use Rattle.usb_text.specs.declared.head.HeadLine.{HeadLine}
use Rattle.usb_text.specs.declared.head.HeadLine.TheVariants.{Device, Config, Text, Report, Begin}
use Rattle.device_text.specs.Job.{parts_of, last_after, most_strings}
use Rattle.job_reader.specs.declared.draft.Draft.{Draft}
use Rattle.job_reader.specs.declared.draft.Stage.{Stage}
use Rattle.job_reader.specs.declared.draft.Stage.TheVariants as stage

abbrev pub new_draft : Draft
new_draft = record {
  device = record { items = [] };
  config = record { items = [] };
  strings = record { items = [] };
  report = None;
  stage = stage.Start;
}

-- the stage after a line
abbrev pub stage_of : Option HeadLine → Stage
stage_of None = stage.Start
stage_of (Some (Device bytes)) = stage.Device
stage_of (Some (Config bytes)) = stage.Config
stage_of (Some (Text index body)) = stage.Text index
stage_of (Some (Report bytes)) = stage.Report
stage_of (Some Begin) = stage.Begin

abbrev pub takes_device : Stage → Bool
takes_device stage.Start = true
takes_device stage.Device = false
takes_device stage.Config = false
takes_device (stage.Text last) = false
takes_device stage.Report = false
takes_device stage.Begin = false

abbrev pub takes_config : Stage → Bool
takes_config stage.Start = false
takes_config stage.Device = true
takes_config stage.Config = false
takes_config (stage.Text last) = false
takes_config stage.Report = false
takes_config stage.Begin = false

abbrev pub takes_text : Stage → ℕ → Bool
takes_text stage.Start index = false
takes_text stage.Device index = false
takes_text stage.Config index = true
takes_text (stage.Text last) index = nat_lt last index
takes_text stage.Report index = false
takes_text stage.Begin index = false

abbrev pub takes_report : Stage → Bool
takes_report stage.Start = false
takes_report stage.Device = false
takes_report stage.Config = true
takes_report (stage.Text last) = true
takes_report stage.Report = false
takes_report stage.Begin = false

abbrev pub takes_begin : Stage → Bool
takes_begin stage.Start = false
takes_begin stage.Device = false
takes_begin stage.Config = true
takes_begin (stage.Text last) = true
takes_begin stage.Report = true
takes_begin stage.Begin = false

-- whether a line has its place at a stage, after so many strings
abbrev pub accepts : Stage → ℕ → HeadLine → Bool
accepts s strings (Device bytes) = takes_device s
accepts s strings (Config bytes) = takes_config s
accepts s strings (Text index body) = nat_lt strings most_strings && takes_text s index
accepts s strings (Report bytes) = takes_report s
accepts s strings Begin = takes_begin s

abbrev pub is_whole : Stage → Bool
is_whole stage.Start = false
is_whole stage.Device = false
is_whole stage.Config = false
is_whole (stage.Text last) = false
is_whole stage.Report = false
is_whole stage.Begin = true

abbrev pub with_head : Draft → HeadLine → Draft
with_head draft (Device bytes) = record draft { device = bytes; stage = stage.Device }
with_head draft (Config bytes) = record draft { config = bytes; stage = stage.Config }
with_head draft (Text index body) =
    record draft { strings = record { items = draft.strings.items ++ record { index = index; body = body } ∷ [] }; stage = stage.Text index }
with_head draft (Report bytes) = record draft { report = Some bytes; stage = stage.Report }
with_head draft Begin = record draft { stage = stage.Begin }

-- a draft holds what these lines give
pub record IsDraft (draft : Draft) (lines : List HeadLine) : Type 0 where
  pub device : draft.device.items ≡ (parts_of lines).device
  pub config : draft.config.items ≡ (parts_of lines).config
  pub strings : draft.strings.items ≡ (parts_of lines).strings
  pub report : option_map (λ r. r.items) draft.report ≡ (parts_of lines).report
  pub stage : draft.stage ≡ stage_of (last_after None lines)

-- indices go up from `least` on, and stay below `next`
abbrev pub AscendTo : ℕ → List StringPart → ℕ → Type 0
AscendTo least [] next = least ≤ next
AscendTo least (part ∷ parts) next = (least ≤ part.index) × AscendTo (part.index + 1) parts next

-- the strings of a head at a stage
abbrev pub Ascends : Stage → List StringPart → Type 0
Ascends stage.Start strings = strings ≡ []
Ascends stage.Device strings = strings ≡ []
Ascends stage.Config strings = strings ≡ []
Ascends (stage.Text last) strings = AscendTo 1 strings (last + 1)
Ascends stage.Report strings = Ascend 1 strings
Ascends stage.Begin strings = Ascend 1 strings

-- how many lines but strings a stage comes after
abbrev pub rank : Stage → ℕ
rank stage.Start = 0
rank stage.Device = 1
rank stage.Config = 2
rank (stage.Text last) = 2
rank stage.Report = 3
rank stage.Begin = 4
