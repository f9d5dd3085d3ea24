pub mod ByteLaws
pub mod Overwriting
pub mod RoundTrip
pub mod SectionLaws
pub mod WidthLaws
pub mod WriteLaws
