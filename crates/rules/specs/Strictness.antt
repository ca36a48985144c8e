-- Which of two options is the stricter, and how options travel in messages.
use Rattle.std.specs.Prelude.{Bool, true, false, Some, None, Option}
use Rattle.isup.specs.declared.message.Notification.{Notification}
use Rattle.isup.specs.declared.message.Notification.TheVariants as notification
use Rattle.isup.specs.declared.message.Indicator.{Indicator}
use Rattle.isup.specs.declared.message.Indicator.TheVariants as indicator
use Rattle.isup.specs.declared.message.Restriction.{Restriction}
use Rattle.isup.specs.declared.message.Restriction.TheVariants.{Allowed, Restricted}
use Rattle.options.specs.declared.record.NotificationOption.{NotificationOption}
use Rattle.options.specs.declared.record.NotificationOption.TheVariants.{NotAllowed, WithNumber, WithoutNumber}

-- not allowed (1) is the strictest option, then without the number (3), then with it (2)
abbrev pub stricter : NotificationOption → NotificationOption → NotificationOption
stricter NotAllowed y = NotAllowed
stricter WithNumber y = y
stricter WithoutNumber NotAllowed = NotAllowed
stricter WithoutNumber WithNumber = WithoutNumber
stricter WithoutNumber WithoutNumber = WithoutNumber

-- the strictest of what there was so far, if anything, and one option more
abbrev pub strictest_with : Option NotificationOption → NotificationOption → NotificationOption
strictest_with None y = y
strictest_with (Some x) y = stricter x y

-- an option as a notice has it
abbrev pub notification_for : NotificationOption → Notification
notification_for NotAllowed = notification.NotAllowed
notification_for WithNumber = notification.WithNumber
notification_for WithoutNumber = notification.WithoutNumber

-- the option that a notice tells; unknown counts as not allowed
abbrev pub told_option : Notification → NotificationOption
told_option notification.Unknown = NotAllowed
told_option notification.NotAllowed = NotAllowed
told_option notification.WithNumber = WithNumber
told_option notification.WithoutNumber = WithoutNumber

-- the indicator of an initial address for the strictest option so far
abbrev pub indicator_for : NotificationOption → Indicator
indicator_for NotAllowed = indicator.AllRestricted
indicator_for WithNumber = indicator.Diverted
indicator_for WithoutNumber = indicator.NumberRestricted

-- the strictest option so far, by the indicator received
abbrev pub indicated_option : Indicator → NotificationOption
indicated_option indicator.AllRestricted = NotAllowed
indicated_option indicator.Diverted = WithNumber
indicated_option indicator.NumberRestricted = WithoutNumber

-- a withheld number is restricted
abbrev pub restriction_for : Bool → Restriction
restriction_for true = Restricted
restriction_for false = Allowed
